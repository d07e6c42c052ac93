-- What is wrong with a line by itself.
use Rattle.std.proofs.Common.{◌≡◌, ℕ, inl, inr, List, [], ◌∷◌, ◌++◌}
use Rattle.columns.specs.Lines.{field}
use Rattle.columns.specs.LineFaults.{FieldKind, IsFieldFault, IsFaultOf, IsFaultAmong, IsColumnFault, front_fields, column_fields, line_fields}
use Rattle.columns.specs.LineFaults.FieldKind.{a_name, a_type, a_key}
use Rattle.columns.specs.declared.fields.LineFault.{LineFault}
use Rattle.columns.specs.declared.fields.LineFault.TheVariants.{Name, Kind, CharacterSet, Key, ColumnTwice, TableApart, NoLine}

pub of_name : (text : List ℕ) (fault : LineFault) → IsFieldFault 9 text fault → IsFaultOf a_name text fault
of_name text Name own = absurd own
of_name text _ own = own

pub of_type : (text : List ℕ) (fault : LineFault) → IsFieldFault 9 text fault → IsFaultOf a_type text fault
of_type text (Kind kind) own = absurd own
of_type text _ own = own

pub of_key : (text : List ℕ) (fault : LineFault) → IsFieldFault 10 text fault → IsFaultOf a_key text fault
of_key text Key own = absurd own
of_key text _ own = own

-- a fault that no field has
pub never_among : (fault : LineFault) → ((kind : FieldKind) (text : List ℕ) → IsFaultOf kind text fault → ⊥) → (kinds : List FieldKind) (text : List ℕ) → IsFaultAmong kinds text fault → ⊥
never_among fault never [] text among = among
never_among fault never (kind ∷ kinds) text (inl own) = never kind text own
never_among fault never (kind ∷ kinds) text (inr (bytes, rest, is, among)) = never_among fault never kinds rest among

pub no_set : (kinds : List FieldKind) (text : List ℕ) → IsFaultAmong kinds text CharacterSet → ⊥
no_set = never_among CharacterSet never
  where
    never : (kind : FieldKind) (text : List ℕ) → IsFaultOf kind text CharacterSet → ⊥
    never a_name text own = own
    never a_type text own = own
    never a_key text own = own

pub no_twice : (kinds : List FieldKind) (text : List ℕ) → IsFaultAmong kinds text ColumnTwice → ⊥
no_twice = never_among ColumnTwice never
  where
    never : (kind : FieldKind) (text : List ℕ) → IsFaultOf kind text ColumnTwice → ⊥
    never a_name text own = own
    never a_type text own = own
    never a_key text own = own

pub no_apart : (kinds : List FieldKind) (text : List ℕ) → IsFaultAmong kinds text TableApart → ⊥
no_apart = never_among TableApart never
  where
    never : (kind : FieldKind) (text : List ℕ) → IsFaultOf kind text TableApart → ⊥
    never a_name text own = own
    never a_type text own = own
    never a_key text own = own

pub no_none : (kinds : List FieldKind) (text : List ℕ) → IsFaultAmong kinds text NoLine → ⊥
no_none = never_among NoLine never
  where
    never : (kind : FieldKind) (text : List ℕ) → IsFaultOf kind text NoLine → ⊥
    never a_name text own = own
    never a_type text own = own
    never a_key text own = own

of_column : (text : List ℕ) (fault : LineFault) → IsFaultAmong column_fields text fault → IsColumnFault text fault
of_column text CharacterSet among = absurd (no_set column_fields text among)
of_column text _ among = among

pub at_name : (text : List ℕ) (fault : LineFault) → IsFaultOf a_name text fault → IsColumnFault text fault
at_name text fault own = of_column text fault (inl own)

pub at_type : (text name rest : List ℕ) (fault : LineFault) → text ≡ field name 9 ++ rest → IsFaultOf a_type rest fault → IsColumnFault text fault
at_type text name rest fault is own = of_column text fault (inr (name, rest, is, inl own))

pub at_set : (text name after kind rest : List ℕ) (fault : LineFault) → text ≡ field name 9 ++ after → after ≡ field kind 9 ++ rest → IsFaultOf a_name rest fault → IsColumnFault text fault
at_set text name after kind rest fault is next own = of_column text fault (inr (name, after, is, inr (kind, rest, next, inl own)))

pub at_key : (text name after kind more set rest : List ℕ) (fault : LineFault) → text ≡ field name 9 ++ after → after ≡ field kind 9 ++ more → more ≡ field set 9 ++ rest → IsFaultOf a_key rest fault → IsColumnFault text fault
at_key text name after kind more set rest fault is next last own = of_column text fault (inr (name, after, is, inr (kind, more, next, inr (set, rest, last, inl own))))

pub first_name : (text : List ℕ) (fault : LineFault) → IsFaultOf a_name text fault → IsFaultAmong front_fields text fault
first_name text fault own = inl own

pub second_name : (text name rest : List ℕ) (fault : LineFault) → text ≡ field name 9 ++ rest → IsFaultOf a_name rest fault → IsFaultAmong front_fields text fault
second_name text name rest fault is own = inr (name, rest, is, inl own)

-- the first two fields are fields of the line
pub in_front : (text : List ℕ) (fault : LineFault) → IsFaultAmong front_fields text fault → IsFaultAmong line_fields text fault
in_front text fault (inl own) = inl own
in_front text fault (inr (bytes, rest, is, inl own)) = inr (bytes, rest, is, inl own)
in_front text fault (inr (bytes, rest, is, inr (more, last, next, none))) = absurd none
