-- What is known after the calls that copy both files.
use Rattle.std.proofs.Common.{◌≡◌, ℕ, ◌≤◌, Bool, true, false, List, [], Option, Some, None, refl, sym, ap, subst, ◌∙◌, arith}
use Rattle.std.specs.Prelude.{MatchBool, is_some, MatchOption, slice_get}
use Rattle.std.specs.Option.{option_eq}
use Rattle.std.specs.Str.{bytes_eq}
use Rattle.std.proofs.lemmas.Bool.{false≢true}
use Rattle.std.proofs.lemmas.Slice.Eq.{bytes_eq-Decides}
use Rattle.sqlite_wal.specs.Recovery.{Image}
use Rattle.files.specs.Copying.{header_of, WereRead, WereReadInOrder, Times, IsCopied, CopyAccount, InCall, ReadsHeader, CopiesFile, RemovesLog, CopiesLog, MissesLog, CopiesBoth, MeetsOtherHeader}

-- headers that `==` holds of are the same
same_if_equal : (a b : Option (List ℕ)) → option_eq bytes_eq a b ≡ true → a ≡ b
same_if_equal None None is = refl
same_if_equal None (Some y) is = absurd (false≢true is)
same_if_equal (Some x) None is = absurd (false≢true is)
same_if_equal (Some x) (Some y) is = ap Some ((bytes_eq-Decides x y).0 is)

WereRead-wider : (file : ℕ → List ℕ) (a b c d : ℕ) (bytes : List ℕ) → c ≤ a → b ≤ d → WereRead file a b bytes → WereRead file c d bytes
WereRead-wider file a b c d bytes low high were at =
    let one = were at in
    (one.0, omega (arith, one.1), omega (arith, one.2), one.3)

WereReadInOrder-wider : (file : ℕ → List ℕ) (a b c d : ℕ) (when : ℕ → ℕ) (bytes : List ℕ) → c ≤ a → b ≤ d → WereReadInOrder file a b when bytes → WereReadInOrder file c d when bytes
WereReadInOrder-wider file a b c d when bytes low high were =
    record {
      began = λ at. omega (arith, were.began at);
      ended = λ at. omega (arith, were.ended at);
      order = were.order;
      read = were.read;
    }

-- what holds of a call and of the next one
pub at_once : 0 ≤ 0
at_once = omega arith

pub InCall-then : (P Q R : CopyAccount → CopyAccount → Type 0) → ((x y z : CopyAccount) → (y.files ≡ x.files) → (x.now ≤ y.now) → (z.files ≡ y.files) → (y.now ≤ z.now) → P x y → Q y z → R x z) → (a b c : Option CopyAccount) → InCall P a b → InCall Q b c → InCall R a c
InCall-then P Q R both a b None first last = tt
InCall-then P Q R both (Some x) (Some y) (Some z) first last =
    (last.0 ∙ first.0, omega (arith, first.1, last.1), both x y z first.0 first.1 last.0 last.1 first.2 last.2)
InCall-then P Q R both None (Some y) (Some z) first last = absurd first
InCall-then P Q R both None None (Some z) first last = absurd last
InCall-then P Q R both (Some x) None (Some z) first last = absurd last

file_carried : (f g : ℕ → Image) (a b : ℕ) (xs ys : List ℕ) → g ≡ f → ys ≡ xs → WereRead (λ m. (f m).db) a b xs → WereRead (λ m. (g m).db) a b ys
file_carried f g a b xs ys files bytes were at =
    let one = were at in
    (one.0, one.1, one.2, ap (λ (z : List ℕ). slice_get z at) bytes ∙ one.3 ∙ ap (λ (h : ℕ → Image). slice_get (h one.0).db at) (sym files))

-- This is the header of one moment, and the database file was copied from then on.
abbrev HasFile : Option (List ℕ) → CopyAccount → CopyAccount → Type 0
HasFile head before after =
    (i : ℕ) × (before.now ≤ i) × (i ≤ after.now) × (head ≡ header_of (after.files i).log)
    × WereRead (λ m. (after.files m).db) i after.now after.copy.db

-- There is no log beside it.
abbrev pub HasBare : Option (List ℕ) → CopyAccount → CopyAccount → Type 0
HasBare head before after = HasFile head before after × (after.copy.log ≡ [])

-- Then the log was copied, if there was a header.
record HasLog (head : Option (List ℕ)) (before after : CopyAccount) : Type 0 where
  pub times : Times
  pub since : before.now ≤ times.first
  pub began : times.first ≤ times.between
  pub ended : times.between ≤ times.last
  pub by_now : times.last ≤ after.now
  pub is : head ≡ header_of (after.files times.first).log
  pub db : WereRead (λ m. (after.files m).db) times.first times.between after.copy.db
  pub log : MatchOption head (after.copy.log ≡ []) (λ _. WereReadInOrder (λ m. (after.files m).log) times.between times.last times.when after.copy.log)

HasFile-from : (head : Option (List ℕ)) (x y z : CopyAccount) → z.files ≡ y.files → y.now ≤ z.now → ReadsHeader head x y → CopiesFile y z → HasFile head x z
HasFile-from head x y z files later read copied =
    let one = read.1 in (
      one.0,
      one.1,
      omega (arith, one.2),
      one.3 ∙ ap (λ (f : ℕ → Image). header_of (f one.0).log) (sym files),
      WereRead-wider (λ m. (z.files m).db) y.now z.now one.0 z.now z.copy.db one.2 (omega arith) copied.1,
    )

HasBare-from : (head : Option (List ℕ)) (x y z : CopyAccount) → z.files ≡ y.files → y.now ≤ z.now → HasFile head x y → RemovesLog y z → HasBare head x z
HasBare-from head x y z files later has removed = (
  (
    has.0,
    has.1,
    omega (arith, has.2, later),
    has.3 ∙ ap (λ (f : ℕ → Image). header_of (f has.0).log) (sym files),
    WereRead-wider (λ m. (z.files m).db) has.0 y.now has.0 z.now z.copy.db (omega arith) later
        (file_carried y.files z.files has.0 y.now y.copy.db z.copy.db files removed.0 has.4),
  ),
  removed.1,
)

HasLog-without : (head : Option (List ℕ)) (x y : CopyAccount) → is_some head ≡ false → HasBare head x y → HasLog head x y
HasLog-without (Some head) x y none it = absurd (false≢true (sym none))
HasLog-without None x y none it =
    record {
      times = record { first = it.0.0; between = y.now; when = λ at. y.now; last = y.now };
      since = it.0.1;
      began = it.0.2;
      ended = omega arith;
      by_now = omega arith;
      is = it.0.3;
      db = it.0.4;
      log = it.1;
    }

HasLog-from : (head : Option (List ℕ)) (x y z : CopyAccount) → is_some head ≡ true → z.files ≡ y.files → y.now ≤ z.now → HasBare head x y → CopiesLog y z → HasLog head x z
HasLog-from None x y z some files later it copied = absurd (false≢true some)
HasLog-from (Some head) x y z some files later it copied =
    record {
      times = record { first = it.0.0; between = y.now; when = copied.1.0; last = z.now };
      since = it.0.1;
      began = it.0.2;
      ended = later;
      by_now = omega arith;
      is = it.0.3 ∙ ap (λ (f : ℕ → Image). header_of (f it.0.0).log) (sym files);
      db = file_carried y.files z.files it.0.0 y.now y.copy.db z.copy.db files copied.0 it.0.4;
      log = copied.1.1;
    }

CopiesBoth-from : (head later : Option (List ℕ)) (x y z : CopyAccount) → later ≡ head → z.files ≡ y.files → y.now ≤ z.now → HasLog head x y → ReadsHeader later y z → CopiesBoth x z
CopiesBoth-from head later x y z same files after it read =
    let j = read.1.0 in
    let times : Times = record { first = it.times.first; between = it.times.between; when = it.times.when; last = j } in
    let is : header_of (y.files j).log ≡ header_of (y.files it.times.first).log =
    sym (read.1.3 ∙ ap (λ (f : ℕ → Image). header_of (f j).log) files) ∙ same ∙ it.is in
    let copied : IsCopied y.files times y.copy =
    record {
      began = it.began;
      ended = omega (arith, it.ended, it.by_now, read.1.1);
      same_header = is;
      db = it.db;
      log = log_of head (header_of (y.files it.times.first).log) it.is it.log (omega (arith, it.by_now, read.1.1));
    } in (
      times,
      it.since,
      read.1.2,
      subst (λ (f : ℕ → Image). IsCopied f times z.copy) (sym files) (subst (λ (c : Image). IsCopied y.files times c) (sym read.0) copied),
    )
  where
    log_of : (a b : Option (List ℕ)) → a ≡ b → MatchOption a (y.copy.log ≡ []) (λ _. WereReadInOrder (λ m. (y.files m).log) it.times.between it.times.last it.times.when y.copy.log) → it.times.last ≤ read.1.0 → MatchOption b (y.copy.log ≡ []) (λ _. WereReadInOrder (λ m. (y.files m).log) it.times.between read.1.0 it.times.when y.copy.log)
    log_of a None eq log wide = subst (λ (o : Option (List ℕ)). MatchOption o (y.copy.log ≡ []) (λ _. WereReadInOrder (λ m. (y.files m).log) it.times.between it.times.last it.times.when y.copy.log)) eq log
    log_of a (Some b) eq log wide =
        WereReadInOrder-wider (λ m. (y.files m).log) it.times.between it.times.last it.times.between read.1.0 it.times.when y.copy.log (omega arith) wide
        (subst (λ (o : Option (List ℕ)). MatchOption o (y.copy.log ≡ []) (λ _. WereReadInOrder (λ m. (y.files m).log) it.times.between it.times.last it.times.when y.copy.log)) eq log)

-- the header, the database file, and the log that is removed
pub bare : (head : Option (List ℕ)) (a b c d : Option CopyAccount) → InCall (ReadsHeader head) a b → InCall CopiesFile b c → InCall RemovesLog c d → InCall (HasBare head) a d
bare head a b c d read copied removed =
    InCall-then (HasFile head) RemovesLog (HasBare head) (λ x y z f m g n p q. HasBare-from head x y z g n p q) a c d
    (InCall-then (ReadsHeader head) CopiesFile (HasFile head) (λ x y z f m g n p q. HasFile-from head x y z g n p q) a b c read copied)
    removed

-- The header of a later moment differs, or is missing.
MeetsOther-from : (head later : Option (List ℕ)) (x y z : CopyAccount) → (later ≡ head → ⊥) → z.files ≡ y.files → y.now ≤ z.now → (i : ℕ) → x.now ≤ i → i ≤ y.now → head ≡ header_of (y.files i).log → (j : ℕ) → y.now ≤ j → j ≤ z.now → later ≡ header_of (z.files j).log → MeetsOtherHeader x z
MeetsOther-from head later x y z differs files after i since by_then is j from upto last = (
  i,
  j,
  since,
  omega arith,
  upto,
  λ same.
      differs (last ∙ sym same ∙ ap (λ (f : ℕ → Image). header_of (f i).log) files ∙ sym is),
)

equal_to_itself : (a : Option (List ℕ)) → option_eq bytes_eq a a ≡ true
equal_to_itself None = refl
equal_to_itself (Some x) = (bytes_eq-Decides x x).1 refl

differ_if_unequal : (a b : Option (List ℕ)) → option_eq bytes_eq a b ≡ false → a ≡ b → ⊥
differ_if_unequal a b unequal same =
    false≢true (sym unequal ∙ subst (λ (c : Option (List ℕ)). option_eq bytes_eq a c ≡ true) same (equal_to_itself a))

closed : (head later : Option (List ℕ)) (fits : Bool) (x y z : CopyAccount) → fits ≡ option_eq bytes_eq later head → z.files ≡ y.files → y.now ≤ z.now → HasLog head x y → ReadsHeader later y z → MatchBool fits (CopiesBoth x z) (MeetsOtherHeader x z)
closed head later true x y z is files after it read =
    CopiesBoth-from head later x y z (same_if_equal later head (sym is)) files after it read
closed head later false x y z is files after it read =
    MeetsOther-from head later x y z (differ_if_unequal later head (sym is)) files after it.times.first it.since
    (omega (arith, it.began, it.ended, it.by_now)) it.is read.1.0 read.1.1 read.1.2 read.1.3

-- the log, and the header again
pub with_log : (head later : Option (List ℕ)) (fits : Bool) (a b c d : Option CopyAccount) → is_some head ≡ true → fits ≡ option_eq bytes_eq later head → InCall (HasBare head) a b → InCall CopiesLog b c → InCall (ReadsHeader later) c d → InCall (λ before after. MatchBool fits (CopiesBoth before after) (MeetsOtherHeader before after)) a d
with_log head later fits a b c d some is has copied read =
    InCall-then (HasLog head) (ReadsHeader later) (λ before after. MatchBool fits (CopiesBoth before after) (MeetsOtherHeader before after))
    (λ x y z f m g n p q. closed head later fits x y z is g n p q) a c d
    (InCall-then (HasBare head) CopiesLog (HasLog head) (λ x y z f m g n p q. HasLog-from head x y z some g n p q) a b c has copied)
    read

-- the header again
pub without_log : (head later : Option (List ℕ)) (fits : Bool) (a b c : Option CopyAccount) → is_some head ≡ false → fits ≡ option_eq bytes_eq later head → InCall (HasBare head) a b → InCall (ReadsHeader later) b c → InCall (λ before after. MatchBool fits (CopiesBoth before after) (MeetsOtherHeader before after)) a c
without_log head later fits a b c none is has read =
    InCall-then (HasBare head) (ReadsHeader later) (λ before after. MatchBool fits (CopiesBoth before after) (MeetsOtherHeader before after))
    (λ x y z f m g n p q. closed head later fits x y z is g n (HasLog-without head x y none p) q) a b c has read

-- a log that is gone
pub gone : (head : Option (List ℕ)) (a b c : Option CopyAccount) → is_some head ≡ true → InCall (HasBare head) a b → InCall MissesLog b c → InCall MeetsOtherHeader a c
gone head a b c some has misses =
    InCall-then (HasBare head) MissesLog MeetsOtherHeader
    (λ x y z f m g n p q.
    MeetsOther-from head None x y z (λ is. false≢true (subst (λ (o : Option (List ℕ)). is_some o ≡ true) (sym is) some)) g n p.0.0 p.0.1 p.0.2 p.0.3 q.0 q.1 q.2 (sym q.3))
    a b c has misses

-- what holds of a call that answers this
pub InCall-yes : (answer : Bool) (P Q : CopyAccount → CopyAccount → Type 0) (a b : Option CopyAccount) → answer ≡ true → InCall (λ before after. MatchBool answer (P before after) (Q before after)) a b → InCall P a b
InCall-yes true P Q a b met it = it
InCall-yes false P Q a b met it = absurd (false≢true met)

pub InCall-no : (answer : Bool) (P Q : CopyAccount → CopyAccount → Type 0) (a b : Option CopyAccount) → answer ≡ false → InCall (λ before after. MatchBool answer (P before after) (Q before after)) a b → InCall Q a b
InCall-no false P Q a b met it = it
InCall-no true P Q a b met it = absurd (false≢true (sym met))
