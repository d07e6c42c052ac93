-- The fault of a payload that is not the expected message: that of the first line of the message's list that holds. No
-- line holds for the message itself.
use Rattle.std.specs.Prelude.{ℕ, ◌+◌, ◌-◌, ◌*◌, ◌^◌, Bool, false, ◌&&◌, ◌||◌, not, max, List, [], ◌∷◌, length, take, drop, ◌==◌, nat_lt, nat_le, if◌then◌else◌, Option, Some, None, slice_index, bit_and}
use Rattle.std.specs.Str.{bytes_eq}
use Rattle.byteorder.specs.Endian.{little_number}
use Rattle.wire.specs.Integer as lenenc
use Rattle.greet.specs.PacketHeader as packet_header
use Rattle.greet.specs.Message.{plugin_name, needed, response_lead}

pub data Refusal : Type 0 where
  server_error : ℕ → Option (List ℕ) → List ℕ → Refusal
  protocol : ℕ → Refusal
  truncated : Refusal
  capabilities : ℕ → Refusal
  plugin : Refusal
  old_auth : Refusal
  unexpected : ℕ → Refusal

-- ---- Texts that end with a zero byte.

abbrev pub has_zero : List ℕ → Bool
has_zero [] = false
has_zero (b ∷ bytes) = (b == 0) || has_zero bytes

-- the bytes before the first zero byte
abbrev pub before_zero : List ℕ → List ℕ
before_zero [] = []
before_zero (b ∷ bytes) = if b == 0 then [] else b ∷ before_zero bytes

-- the bytes after the first zero byte
abbrev pub after_zero : List ℕ → List ℕ
after_zero [] = []
after_zero (b ∷ bytes) = if b == 0 then bytes else after_zero bytes

-- ---- Errors.

-- how many bytes of a message are kept
abbrev pub kept_message : ℕ
kept_message = 512

-- whether `#` and five bytes of state come before a message
abbrev pub has_state : List ℕ → Bool
has_state text = nat_le 6 (length text) && (slice_index text 0 == 0x23)

abbrev pub state_of : List ℕ → Option (List ℕ)
state_of text = if has_state text then Some (take 5 (drop 1 text)) else None

abbrev pub message_of : List ℕ → List ℕ
message_of text = if has_state text then drop 6 text else text

-- what an ERR says, from the bytes after its 0xFF
unfoldable pub error_of : List ℕ → Refusal
error_of bytes =
    let text = drop 2 bytes in
    if nat_lt (length bytes) 2 then truncated
    else server_error (little_number 2 bytes) (state_of text) (take kept_message (message_of text))

-- ---- The greeting.

-- after the zero byte of the server's version
unfoldable pub fields_refusal : List ℕ → Option Refusal
fields_refusal fields =
    let has = little_number 2 (drop 13 fields) + 2 ^ 16 * little_number 2 (drop 18 fields) in
    let size = slice_index fields 20 in
    if nat_lt (length fields) 31 then Some truncated
    else if not (bit_and has needed == needed) then Some (capabilities (needed - bit_and has needed))
    else if nat_lt (length fields) (31 + max 13 (size - 8)) then Some truncated
    else None

unfoldable pub greeting_refusal : List ℕ → Option Refusal
greeting_refusal [] = Some truncated
greeting_refusal (first ∷ body) =
    if first == packet_header.err then Some (error_of body)
    else if not (first == packet_header.handshake_v10) then Some (protocol first)
    else fields_refusal (after_zero body)

-- ---- The response.

-- the first byte that differs from the layout's
abbrev pub first_difference : List ℕ → List ℕ → Option Refusal
first_difference (x ∷ xs) (y ∷ ys) = if x == y then first_difference xs ys else Some (protocol x)
first_difference _ _ = None

-- after the answer: the plugin's name with its zero byte, and nothing more; then the leading bytes
unfoldable pub end_refusal : List ℕ → List ℕ → Option Refusal
end_refusal lead name =
    if not (has_zero name) then Some truncated
    else if not (length (after_zero name) == 0) then Some truncated
    else if not (bytes_eq (before_zero name) plugin_name) then Some plugin
    else first_difference lead response_lead

unfoldable pub response_refusal : List ℕ → Option Refusal
response_refusal payload =
    let user = drop 32 payload in
    let auth = after_zero user in
    let size = slice_index auth 0 in
    if not (has_zero user) then Some truncated
    else if nat_lt (length auth) (1 + size) then Some truncated
    else end_refusal (take 32 payload) (drop (1 + size) auth)

-- ---- The source's replies.

-- the bytes after a length-encoded integer, if there is one at the front
abbrev pub after_int : List ℕ → Option (List ℕ)
after_int [] = None
after_int (first ∷ bytes) =
    if nat_le first lenenc.most_in_one_byte then Some bytes
    else if (first == lenenc.two_bytes) && nat_le 2 (length bytes) then Some (drop 2 bytes)
    else if (first == lenenc.three_bytes) && nat_le 3 (length bytes) then Some (drop 3 bytes)
    else if (first == lenenc.eight_bytes) && nat_le 8 (length bytes) then Some (drop 8 bytes)
    else None

-- two length-encoded integers, and four bytes more
abbrev pub has_counters : Option (List ℕ) → Bool
has_counters None = false
has_counters (Some bytes) = nat_le 4 (length bytes)

abbrev pub has_insert_id : Option (List ℕ) → Bool
has_insert_id None = false
has_insert_id (Some bytes) = has_counters (after_int bytes)

-- if an OK is expected
unfoldable pub ok_refusal : List ℕ → Option Refusal
ok_refusal [] = Some truncated
ok_refusal (first ∷ body) =
    if first == packet_header.err then Some (error_of body)
    else if not (first == packet_header.ok) then Some (unexpected first)
    else if not (has_insert_id (after_int body)) then Some truncated
    else None

-- after the 0xFE of a switch
unfoldable pub switch_refusal : List ℕ → Option Refusal
switch_refusal body =
    if length body == 0 then Some old_auth
    else if not (has_zero body) then Some truncated
    else if not (bytes_eq (before_zero body) plugin_name) then Some plugin
    else if nat_lt (length (after_zero body)) 20 then Some truncated
    else None

-- if the reply to an authentication is expected: an OK or a switch
unfoldable pub reply_refusal : List ℕ → Option Refusal
reply_refusal [] = Some truncated
reply_refusal (first ∷ body) = if first == packet_header.auth_switch then switch_refusal body else ok_refusal (first ∷ body)

-- if an EOF is expected
unfoldable pub eof_refusal : List ℕ → Option Refusal
eof_refusal [] = Some truncated
eof_refusal (first ∷ body) =
    if first == packet_header.err then Some (error_of body)
    else if not (first == packet_header.eof) then Some (unexpected first)
    else if nat_le 8 (length body) then Some (unexpected packet_header.eof)
    else if nat_lt (length body) 4 then Some truncated
    else None

-- ---- The dump command.

-- after the first byte: two bytes of flags, four of server id, four of the name's length, the name, eight bytes of
-- position, four of the set's length, and the set
abbrev pub dump_name_size : List ℕ → ℕ
dump_name_size body = little_number 4 (drop 6 body)

abbrev pub dump_set_size : List ℕ → ℕ
dump_set_size body = little_number 4 (drop (18 + dump_name_size body) body)

-- if a dump command is expected: its parts have the lengths that it states, and nothing is left over
unfoldable pub dump_refusal : List ℕ → Option Refusal
dump_refusal [] = Some truncated
dump_refusal (first ∷ body) =
    if not (first == packet_header.com_binlog_dump_gtid) then Some (unexpected first)
    else if not (length body == 22 + dump_name_size body + dump_set_size body) then Some truncated
    else None
