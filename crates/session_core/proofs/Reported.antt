-- Outgoing streams that report, or are told their kind.
use Rattle.std.proofs.Common.{◌≡◌, ℕ, Bool, true, false, List, [], ◌∷◌, Option, Some, None, refl, ap}
use Rattle.std.specs.Option.{option_map}
use Rattle.std.specs.Prelude.{is_some, if◌then◌else◌}
use Rattle.stream_core.specs.Reporting.{tx_reported, with_kind}
use Rattle.stream_core.specs.TxRecord.{TxRecord}
use Rattle.stream_core.specs.Tables.{each}
use Rattle.session_core.specs.Reports.{first_ssrc, is_sound, of_kind, reports_in, sender_after, some_reports}
use Rattle.session_core.specs.SessionRecord.{MediaRecord}

pub told_before : (o : Option Bool) (m : Option MediaRecord) (x : TxRecord) → is_some o ≡ true → of_kind o m x ≡ x
told_before (Some b) m x told = refl
told_before None m x told = absurd cc

pub without_media : (o : Option Bool) (m : Option MediaRecord) (x : TxRecord) → m ≡ None → of_kind o m x ≡ x
without_media (Some b) m x none = refl
without_media None None x none = refl
without_media None (Some m) x none = absurd cc

pub told_now : (o : Option Bool) (m : Option MediaRecord) (media : MediaRecord) (x : TxRecord) → is_some o ≡ false → m ≡ Some media → of_kind o m x ≡ with_kind (is_sound media.kind) x
told_now (Some b) m media x new some = absurd cc
told_now None None media x new some = absurd cc
told_now None (Some m) media x new some = let same : m ≡ media = cc in ap (λ (r : MediaRecord). with_kind (is_sound r.kind) x) same

pub stays_silent : (medias : List MediaRecord) (now : ℕ) (mids : List (List ℕ)) (x : TxRecord) → reports_in mids medias x ≡ None → sender_after medias now mids x ≡ x
stays_silent medias now mids x none = ap (λ (o : Option MediaRecord). if is_some o then tx_reported now x else x) none

pub reports_now : (medias : List MediaRecord) (now : ℕ) (mids : List (List ℕ)) (x : TxRecord) (m : MediaRecord) → reports_in mids medias x ≡ Some m → sender_after medias now mids x ≡ tx_reported now x
reports_now medias now mids x m some = ap (λ (o : Option MediaRecord). if is_some o then tx_reported now x else x) some

-- its SSRC stays
same_ssrc : (medias : List MediaRecord) (now : ℕ) (mids : List (List ℕ)) (x : TxRecord) → (sender_after medias now mids x).ssrc ≡ x.ssrc
same_ssrc medias now mids x = by (is_some (reports_in mids medias x))
  where
    by : (b : Bool) → (if b then tx_reported now x else x).ssrc ≡ x.ssrc
    by true = refl
    by false = refl

pub same_first : (medias : List MediaRecord) (now : ℕ) (mids : List (List ℕ)) (es : List (ℕ × TxRecord)) (own : ℕ)
    → first_ssrc (each (sender_after medias now mids) es) own ≡ first_ssrc es own
same_first medias now mids [] own = refl
same_first medias now mids (e ∷ es) own = same_ssrc medias now mids e.1

-- what is made of a value, if there is one
pub none_given : {X Y : Type 0} (f : X → Y) (o : Option X) → is_some o ≡ false → option_map f o ≡ None
none_given f None none = refl
none_given f (Some x) none = absurd cc

pub some_given : {X Y : Type 0} (f : X → Y) (o : Option X) → is_some o ≡ true → (y : Y) × (option_map f o ≡ Some y)
some_given f None some = absurd cc
some_given f (Some x) some = (f x, refl)

-- where no report is due, no stream reports
pub none_reports : (medias : List MediaRecord) (mids : List (List ℕ)) (x : TxRecord) (m : MediaRecord) → reports_in mids medias x ≡ Some m → mids ≡ [] → ⊥
none_reports medias [] x m some none = absurd cc
none_reports medias (n ∷ ns) x m some none = absurd cc

pub silent_all : (medias : List MediaRecord) (es : List (ℕ × TxRecord)) → some_reports medias [] es ≡ false
silent_all medias [] = refl
silent_all medias (e ∷ es) = silent_all medias es

pub none_report : (medias : List MediaRecord) (mids : List (List ℕ)) (es : List (ℕ × TxRecord)) → some_reports medias mids es ≡ true → mids ≡ [] → ⊥
none_report medias [] es some none = let silent = silent_all medias es in absurd cc
none_report medias (n ∷ ns) es some none = absurd cc
