-- Worked examples.
use Rattle.binlog.proofs.Names.{◌≡◌, [], ◌∷◌, Some, None, Ok, Err, refl, metadata, column_fault, null_cell, number_cell, bytes_cell, row_cells, Truncated, Size, Metadata, Long, Varchar, Char, Blob, Enum, Set, Bit}
use Rattle.binlog.specs.Header.{header_fault}
use Rattle.binlog.specs.Column.{metadata_size, metadata_fault}
use Rattle.binlog.specs.Row.{row_end}
use Rattle.binlog.specs.declared.fault.EventFaultKind.TheVariants.{ColumnType as UnknownColumn}

xid_header : header_fault (0 ∷ 0 ∷ 0 ∷ 0 ∷ 16 ∷ 1 ∷ 0 ∷ 0 ∷ 0 ∷ 27 ∷ 0 ∷ 0 ∷ 0 ∷ 0 ∷ 0 ∷ 0 ∷ 0 ∷ 0 ∷ 0 ∷ 1 ∷ 0 ∷ 0 ∷ 0 ∷ 0 ∷ 0 ∷ 0 ∷ 0 ∷ []) ≡ None
unfolding header_fault
xid_header = refl

other_size : header_fault (0 ∷ 0 ∷ 0 ∷ 0 ∷ 16 ∷ 1 ∷ 0 ∷ 0 ∷ 0 ∷ 28 ∷ 0 ∷ 0 ∷ 0 ∷ 0 ∷ 0 ∷ 0 ∷ 0 ∷ 0 ∷ 0 ∷ 1 ∷ 0 ∷ 0 ∷ 0 ∷ 0 ∷ 0 ∷ 0 ∷ 0 ∷ []) ≡ Some (record { kind = Size; at = 9 })
unfolding header_fault
other_size = refl

short_header : header_fault (0 ∷ 0 ∷ 0 ∷ 0 ∷ 33 ∷ 1 ∷ 0 ∷ 0 ∷ 0 ∷ 44 ∷ 0 ∷ 0 ∷ 0 ∷ []) ≡ Some (record { kind = Truncated; at = 13 })
unfolding header_fault
short_header = refl

char_1020 : metadata (Char 1020) ≡ 206 ∷ 252 ∷ []
char_1020 = refl

char_255 : metadata (Char 255) ≡ 254 ∷ 255 ∷ []
char_255 = refl

char_256 : metadata (Char 256) ≡ 238 ∷ 0 ∷ []
char_256 = refl

enum_3 : column_fault 254 (247 ∷ 3 ∷ []) ≡ Some Metadata
unfolding metadata_size metadata_fault
enum_3 = refl

enum_of_257 : column_fault 254 (231 ∷ 1 ∷ []) ≡ Some Metadata
unfolding metadata_size metadata_fault
enum_of_257 = refl

real_type_253 : column_fault 254 (253 ∷ 5 ∷ []) ≡ Some (UnknownColumn 253)
unfolding metadata_size metadata_fault
real_type_253 = refl

type_253 : column_fault 253 (20 ∷ 0 ∷ []) ≡ Some (UnknownColumn 253)
unfolding metadata_size metadata_fault
type_253 = refl

scale_11 : column_fault 246 (10 ∷ 11 ∷ []) ≡ Some Metadata
unfolding metadata_size metadata_fault
scale_11 = refl

half_varchar : column_fault 15 (20 ∷ []) ≡ Some Truncated
unfolding metadata_size metadata_fault
half_varchar = refl

nine_end : row_end (Char 1020 ∷ Varchar 255 ∷ Varchar 256 ∷ Blob 1 ∷ Blob 4 ∷ Enum 2 ∷ Set 8 ∷ Bit 9 ∷ Long ∷ []) (0 ∷ 255 ∷ 1 ∷ 0 ∷ 97 ∷ 1 ∷ 98 ∷ 1 ∷ 0 ∷ 99 ∷ 1 ∷ 100 ∷ 1 ∷ 0 ∷ 0 ∷ 0 ∷ 101 ∷ 2 ∷ 0 ∷ 5 ∷ 0 ∷ 0 ∷ 0 ∷ 0 ∷ 0 ∷ 0 ∷ 0 ∷ 1 ∷ 2 ∷ []) ≡ Ok 29
unfolding row_end
nine_end = refl

nine_cells : row_cells (Char 1020 ∷ Varchar 255 ∷ Varchar 256 ∷ Blob 1 ∷ Blob 4 ∷ Enum 2 ∷ Set 8 ∷ Bit 9 ∷ Long ∷ []) (0 ∷ 255 ∷ 1 ∷ 0 ∷ 97 ∷ 1 ∷ 98 ∷ 1 ∷ 0 ∷ 99 ∷ 1 ∷ 100 ∷ 1 ∷ 0 ∷ 0 ∷ 0 ∷ 101 ∷ 2 ∷ 0 ∷ 5 ∷ 0 ∷ 0 ∷ 0 ∷ 0 ∷ 0 ∷ 0 ∷ 0 ∷ 1 ∷ 2 ∷ []) ≡ bytes_cell (97 ∷ []) ∷ bytes_cell (98 ∷ []) ∷ bytes_cell (99 ∷ []) ∷ bytes_cell (100 ∷ []) ∷ bytes_cell (101 ∷ [])
    ∷ number_cell 2 2 ∷ number_cell 5 8 ∷ bytes_cell (1 ∷ 2 ∷ []) ∷ null_cell ∷ []
nine_cells = refl

one_row : row_end (Long ∷ Varchar 20 ∷ []) (0 ∷ 7 ∷ 0 ∷ 0 ∷ 0 ∷ 2 ∷ 97 ∷ 98 ∷ 0 ∷ 7 ∷ 0 ∷ 0 ∷ 0 ∷ 2 ∷ 97 ∷ 98 ∷ []) ≡ Ok 8
unfolding row_end
one_row = refl

bits_after : row_cells (Long ∷ Varchar 20 ∷ []) (252 ∷ 7 ∷ 0 ∷ 0 ∷ 0 ∷ 2 ∷ 97 ∷ 98 ∷ []) ≡ number_cell 7 4 ∷ bytes_cell (97 ∷ 98 ∷ []) ∷ []
bits_after = refl

longer_text : row_end (Long ∷ Varchar 20 ∷ []) (0 ∷ 7 ∷ 0 ∷ 0 ∷ 0 ∷ 3 ∷ 97 ∷ 98 ∷ []) ≡ Err 6
unfolding row_end
longer_text = refl

cut_number : row_end (Long ∷ Varchar 20 ∷ []) (0 ∷ 7 ∷ 0 ∷ 0 ∷ []) ≡ Err 1
unfolding row_end
cut_number = refl

cut_bitmap : row_end (Char 1020 ∷ Varchar 255 ∷ Varchar 256 ∷ Blob 1 ∷ Blob 4 ∷ Enum 2 ∷ Set 8 ∷ Bit 9 ∷ Long ∷ []) (0 ∷ []) ≡ Err 0
unfolding row_end
cut_bitmap = refl
