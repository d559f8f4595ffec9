-- What the rules of a step say of the writes of a run.
use Rattle.std.proofs.Common.{◌≡◌, inl, inr, ℕ, ◌≤◌, ◌^◌, Bool, true, false, not, cond, List, [], ◌∷◌, ◌++◌, length, Option, Some, None, refl, sym, ◌∙◌, subst, append_assoc, arith}
use Rattle.std.specs.Prelude.{◌==◌, nat_lt, nat_le, find, is_some, option_to_list}
use Rattle.std.specs.List.{flat_map, list_any}
use Rattle.std.specs.Option.{option_map}
use Rattle.std.proofs.lemmas.Bool.{eqb-true, eq-eqb, ltb-false, false≢true, not-false}
use Rattle.std.proofs.lemmas.List.Concat.{flat_map-append}
use Rattle.media_model.specs.declared.entry.Side.{Side}
use Rattle.media_model.specs.declared.entry.Write.{Write as Writing}
use Rattle.media_model.specs.declared.entry.Entry.{Entry}
use Rattle.media_model.specs.declared.entry.Entry.TheVariants.{Wrote, Ticked, Called, Got, Sealed, Opened, Yielded}
use Rattle.media_model.specs.declared.setup.PayloadType.{PayloadType}
use Rattle.media_model.specs.declared.setup.Setup.{Setup}
use Rattle.media_model.specs.declared.step.Step.{Step}
use Rattle.media_model.specs.declared.step.Act.TheVariants.{Write}
use Rattle.media_model.specs.Steps.{step_at}
use Rattle.media_model.specs.Entries.{write_on, writes_on}
use Rattle.media_model.specs.Setup.{written_in, types_of as main_types, claimed_in, claimed_of, streams_of}
use Rattle.run_model.specs.Listing.{IsIn, NoRepeat}
use Rattle.run_model.specs.Transcripts.{repairs_as, types_of}
use Rattle.run_model.specs.Whole.{Session}
use Rattle.media_laws.proofs.Lists.{IsIn-left, IsIn-right, IsIn-append, any-from_in, in-from_any, tested}
use Rattle.media_laws.specs.declared.fault.StepFault.TheVariants.{UnknownStream, UnknownType, NumberTooBig, NumberUsed, PayloadTooLong}
use Rattle.media_laws.specs.Opening.{Sealing}
use Rattle.media_laws.specs.Play.{AreEntriesOf, wrote, ticked, called, requested, got, Plays}
use Rattle.media_laws.specs.Rules.{has, or_else, time_fault, write_fault, step_fault}
use Rattle.media_laws.proofs.Playing.{NoSteps, seals_only, brought_only, each_taken}
use Rattle.media_laws.proofs.Soundness.{NoRepeat-right, type_in, repairs_claimed, apart_ends}

rule_none : {F : Type 0} (b : Bool) (fault : F) (other : Option F) → cond b (Some fault) other ≡ None → (b ≡ false) × (other ≡ None)
rule_none true fault other e = absurd cc
rule_none false fault other e = (refl, e)

later_none : {F : Type 0} (a b : Option F) → or_else a b ≡ None → b ≡ None
later_none (Some f) b e = absurd cc
later_none None b e = e

-- a write has a type of the setup, and a short payload
pub record IsFit (setup : Setup) (w : Writing) : Type 0 where
  pub type : has (main_types setup) w.pt ≡ true
  pub payload : length w.payload ≤ 1400

write_fits : (setup : Setup) (past : List Entry) (side : Side) (time : ℕ) (w : Writing) → step_fault setup past (step_at side time (Write w)) ≡ None → IsFit setup w
write_fits setup past side time w e =
    let ok = later_none (time_fault past time) (write_fault setup past side w) e in
    let stream = rule_none (not (has (streams_of side setup) w.ssrc)) UnknownStream _ ok in
    let type = rule_none (not (has (main_types setup) w.pt)) UnknownType _ stream.1 in
    let big = rule_none (nat_le (2 ^ 48) w.number) NumberTooBig _ type.1 in
    let used = rule_none (list_any (λ u. u.number == w.number) (writes_on side w.ssrc past)) NumberUsed _ big.1 in
    let long = rule_none (nat_lt 1400 (length w.payload)) PayloadTooLong _ used.1 in
    record {
      type = not-false _ type.0;
      payload = let low = ltb-false 1400 (length w.payload) long.0 in omega (arith, low);
    }

-- what brings no step brings no write
no_writes : (side : Side) (r : ℕ) (es : List Entry) → NoSteps es → writes_on side r es ≡ []
no_writes side r [] h = refl
no_writes side r (Sealed s ∷ es) h = no_writes side r es h.1
no_writes side r (Opened o ∷ es) h = no_writes side r es h.1
no_writes side r (Yielded s p ∷ es) h = no_writes side r es h.1
no_writes side r (Wrote s t w ∷ es) h = absurd (cc (h.0))
no_writes side r (Ticked s t ∷ es) h = absurd (cc (h.0))
no_writes side r (Called s t c ∷ es) h = absurd (cc (h.0))
no_writes side r (Got g ∷ es) h = absurd (cc (h.0))

one_write : (setup : Setup) (side : Side) (r : ℕ) (w : Writing) (x : Entry) → ((s : Side) (t : ℕ) (u : Writing) → x ≡ Wrote s t u → IsFit setup u) → IsIn w (write_on side r x) → IsFit setup w
one_write setup side r w (Wrote s t u) fit i = go _ i
  where
    go : (b : Bool) → IsIn w (cond b (u ∷ []) []) → IsFit setup w
    go true (inl e) = subst (IsFit setup) (sym e) (fit s t u refl)
    go true (inr j) = absurd j
    go false j = absurd j
one_write setup side r w (Ticked s t) fit i = absurd i
one_write setup side r w (Called s t c) fit i = absurd i
one_write setup side r w (Got g) fit i = absurd i
one_write setup side r w (Sealed x) fit i = absurd i
one_write setup side r w (Opened o) fit i = absurd i
one_write setup side r w (Yielded s p) fit i = absurd i

pub writes_fit : {seal : Sealing} {setup : Setup} {a b : Session} {steps : List Step} {entries : List Entry} → Plays seal setup a b steps entries
    → (side : Side) (r : ℕ) (w : Writing) → IsIn w (writes_on side r entries) → IsFit setup w
writes_fit {seal} {setup} h =
    each_taken (λ es. (side : Side) (r : ℕ) (w : Writing) → IsIn w (writes_on side r es) → IsFit setup w) (λ side r w i. absurd i)
    (λ past owner step new t each side r w i. elim (IsIn-append w (writes_on side r past) (writes_on side r new) (subst (IsIn w) (flat_map-append (write_on side r) past new) i)) [
      | inl j ↦ each side r w j
      | inr j ↦ of_new t.outcome.are_of t.outcome.valid side r w j
    ]) h
  where
    of_new : {past : List Entry} {owner : Side} {step : Step} {new : List Entry} → AreEntriesOf seal setup past owner step new → step_fault setup past step ≡ None
        → (side : Side) (r : ℕ) (w : Writing) → IsIn w (writes_on side r new) → IsFit setup w
    of_new {past} (wrote s time u a b c) valid side r w i =
        elim (IsIn-append w (write_on side r (Wrote s time u)) [] i) [
          | inl j ↦ one_write setup side r w (Wrote s time u) (λ s' t' v e. let same : u ≡ v = cc e in subst (IsFit setup) same (write_fits setup past s time u valid)) j
          | inr j ↦ absurd j
        ]
    of_new (ticked s time sealed all) valid side r w i = absurd (subst (IsIn w) (no_writes side r sealed (seals_only seal setup sealed all)) i)
    of_new (called s time sender media payload x is) valid side r w i = absurd i
    of_new (requested s time c by quiet) valid side r w i = absurd i
    of_new (got came brought at all) valid side r w i = absurd (subst (IsIn w) (no_writes side r brought (brought_only seal setup came brought all)) i)

-- its type is claimed, and is no RTX type

written_claimed : (t : PayloadType) (pt : ℕ) → IsIn pt (written_in t) → IsIn pt (claimed_in t)
written_claimed t pt (inl e) = inl e
written_claimed t pt (inr i) = inr (IsIn-right pt (option_to_list t.rtx) (option_to_list t.red) i)

mains_claimed : (types : List PayloadType) (pt : ℕ) → IsIn pt (flat_map written_in types) → IsIn pt (flat_map claimed_in types)
mains_claimed [] pt i = i
mains_claimed (t ∷ types) pt i = elim (IsIn-append pt (written_in t) (flat_map written_in types) i) [
  | inl own ↦ IsIn-left pt (claimed_in t) (flat_map claimed_in types) (written_claimed t pt own)
  | inr j ↦ IsIn-right pt (claimed_in t) (flat_map claimed_in types) (mains_claimed types pt j)
]

rtx_claimed : (types : List PayloadType) (pt : ℕ) → is_some (find (repairs_as pt) types) ≡ true → IsIn pt (flat_map claimed_in types)
rtx_claimed [] pt e = absurd (false≢true e)
rtx_claimed (t ∷ types) pt e =
    elim (tested (repairs_as pt t)) [
      | inl k ↦ IsIn-left pt (claimed_in t) (flat_map claimed_in types) (repairs_claimed t pt k)
      | inr k ↦ IsIn-right pt (claimed_in t) (flat_map claimed_in types) (rtx_claimed types pt (rw k at e))
    ]

-- what is written under a type is no repair under it
not_both : (t : PayloadType) (ns : List ℕ) (pt : ℕ) → NoRepeat (claimed_in t ++ ns) → IsIn pt (written_in t) → IsIn pt (option_to_list t.rtx) → ⊥
not_both t ns pt h (inl e) j =
    h.0 (IsIn-left t.pt (option_to_list t.rtx ++ option_to_list t.red) ns (IsIn-left t.pt (option_to_list t.rtx) (option_to_list t.red) (subst (λ n. IsIn n (option_to_list t.rtx)) e j)))
not_both t ns pt h (inr i) j =
    apart_ends (option_to_list t.rtx) (option_to_list t.red ++ ns) pt (subst NoRepeat (append_assoc (option_to_list t.rtx) (option_to_list t.red) ns) h.1) j
    (IsIn-left pt (option_to_list t.red) ns i)

no_rtx : (types : List PayloadType) (pt : ℕ) → IsIn pt (flat_map written_in types) → NoRepeat (flat_map claimed_in types) → is_some (find (repairs_as pt) types) ≡ false
no_rtx [] pt i h = absurd i
no_rtx (t ∷ types) pt i h =
    let parts = IsIn-append pt (written_in t) (flat_map written_in types) i in
    elim (tested (repairs_as pt t)) [
      | inl k ↦ absurd (elim parts [
        | inl own ↦ not_both t (flat_map claimed_in types) pt h own (type_in t pt k)
        | inr j ↦ apart_ends (claimed_in t) (flat_map claimed_in types) pt h (repairs_claimed t pt k) (mains_claimed types pt j)
      ])
      | inr k ↦ rw k (elim parts [
        | inl own ↦ elim (tested (is_some (find (repairs_as pt) types))) [
          | inl u ↦ absurd (apart_ends (claimed_in t) (flat_map claimed_in types) pt h (written_claimed t pt own) (rtx_claimed types pt u))
          | inr u ↦ u
        ]
        | inr j ↦ no_rtx types pt j (NoRepeat-right (claimed_in t) (flat_map claimed_in types) h)
      ])
    ]

some_map : (o : Option PayloadType) → is_some (option_map (λ (t : PayloadType). t.pt) o) ≡ is_some o
some_map None = refl
some_map (Some t) = refl

pub type_claimed : (setup : Setup) (pt : ℕ) → has (main_types setup) pt ≡ true → (types_of setup).claims pt ≡ true
type_claimed setup pt e =
    let f = in-from_any (λ x. x == pt) (main_types setup) e in
    any-from_in (λ x. x == pt) pt (claimed_of setup) (mains_claimed setup.types pt (subst (λ n. IsIn n (main_types setup)) (eqb-true f.0 pt f.2) f.1)) (eq-eqb pt pt refl)

pub type_primary : (setup : Setup) (pt : ℕ) → NoRepeat (claimed_of setup) → has (main_types setup) pt ≡ true → (types_of setup).is_rtx pt ≡ false
type_primary setup pt once e =
    let f = in-from_any (λ x. x == pt) (main_types setup) e in
    some_map (find (repairs_as pt) setup.types) ∙ no_rtx setup.types pt (subst (λ n. IsIn n (main_types setup)) (eqb-true f.0 pt f.2) f.1) once
