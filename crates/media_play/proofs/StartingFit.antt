-- The configuration of a setup that breaks no rule fits its fields.
use Rattle.std.proofs.Common.{◌≡◌, inl, inr, ℕ, zero, suc, ◌<◌, ◌^◌, true, false, List, [], ◌∷◌, ◌++◌, Option, Some, None, refl, sym, ◌∙◌, subst, arith}
use Rattle.std.specs.Prelude.{◌==◌, nat_lt, find, option_to_list, option_and_then}
use Rattle.std.specs.List.{AllByRecursion, flat_map, list_any}
use Rattle.std.proofs.lemmas.Bool.{eqb-true, ltb-false, false≢true, or_cases}
use Rattle.srtp_core.specs.Cipher.{CipherMeaning}
use Rattle.session_turns.specs.Mirrors.{IsWide, IsFit}
use Rattle.media_model.specs.declared.entry.Side.{Side}
use Rattle.media_model.specs.declared.entry.Side.TheVariants.{A, B}
use Rattle.media_model.specs.declared.setup.PayloadType.{PayloadType}
use Rattle.media_model.specs.declared.setup.Setup.{Setup}
use Rattle.media_model.specs.Setup.{claimed_in, claimed_of}
use Rattle.media_model.specs.Sides.{peer_of}
use Rattle.run_model.specs.Events.{Outgoing}
use Rattle.run_model.specs.Listing.{IsIn, NoRepeat}
use Rattle.run_model.specs.Tables.{has, AllStrange, AreApart}
use Rattle.run_model.specs.TxPlay.{IsApart}
use Rattle.run_model.specs.Transcripts.{has_type, outgoing_of}
use Rattle.media_play.proofs.Lists.{IsIn-left, IsIn-right, tested, any-from_in}
use Rattle.media_laws.specs.Config.{config_of}
use Rattle.media_laws.specs.Keys.{sealing_of}
use Rattle.media_play.specs.Starting.{ssrcs_in, AreOnce, HasWords}
use Rattle.media_play.proofs.StartingLists.{NoRepeat-right, apart_ends}
use Rattle.media_play.proofs.StartingSetup.{Facts}
use Rattle.rtp_base.specs.Window.{is_just}

-- no SSRC is of two streams

is_just_in : (r : ℕ) (o : Option ℕ) → is_just r o ≡ true → IsIn r (option_to_list o)
is_just_in r None e = absurd (false≢true e)
is_just_in r (Some x) e = inl (sym (eqb-true x r e))

given_in : (r : ℕ) (o : Option ℕ) → o ≡ Some r → IsIn r (option_to_list o)
given_in r None e = absurd cc
given_in r (Some x) e = inl cc

own_in : (r : ℕ) (L : Outgoing) → has L r ≡ true → IsIn r (ssrcs_in L)
own_in r L e = elim (or_cases (r == L.ssrc) (is_just r L.rtx) e) [ inl t ↦ inl (eqb-true r L.ssrc t) | inr t ↦ inr (is_just_in r L.rtx t) ]

strange_lines : (L : Outgoing) (Ms : List Outgoing) → ((r : ℕ) → IsIn r (ssrcs_in L) → IsIn r (flat_map ssrcs_in Ms) → ⊥) → AllStrange L Ms
strange_lines L [] h = tt
strange_lines L (M ∷ Ms) h = (
  λ r own. elim (tested (has M r)) [
    | inl t ↦ absurd (h r (own_in r L own) (IsIn-left r (ssrcs_in M) (flat_map ssrcs_in Ms) (own_in r M t)))
    | inr t ↦ t
  ],
  strange_lines L Ms (λ r i j. h r i (IsIn-right r (ssrcs_in M) (flat_map ssrcs_in Ms) j)),
)

apart_line : (L : Outgoing) (rest : List ℕ) → NoRepeat (ssrcs_in L ++ rest) → IsApart L
apart_line L rest h = elim (tested (is_just L.ssrc L.rtx)) [
  | inl t ↦ absurd (h.0 (IsIn-left L.ssrc (option_to_list L.rtx) rest (is_just_in L.ssrc L.rtx t)))
  | inr t ↦ t
]

lines_apart : (Ls : List Outgoing) → AreOnce Ls → AreApart Ls
lines_apart [] h = tt
lines_apart (L ∷ Ls) h = (
  apart_line L (flat_map ssrcs_in Ls) h,
  (
    strange_lines L Ls (λ r. apart_ends (ssrcs_in L) (flat_map ssrcs_in Ls) r h),
    lines_apart Ls (NoRepeat-right (ssrcs_in L) (flat_map ssrcs_in Ls) h),
  ),
)

-- no SSRC is 0

positive : (n : ℕ) → (0 ≡ n → ⊥) → 0 < n
positive zero h = absurd (h refl)
positive (suc n) h = omega arith

wide_lines : (Ls : List Outgoing) → AllByRecursion HasWords Ls → (IsIn 0 (flat_map ssrcs_in Ls) → ⊥) → AllByRecursion IsWide Ls
wide_lines [] words h = tt
wide_lines (L ∷ Ls) words h = (
  record {
    ssrc = (positive L.ssrc (λ e. h (inl e)), words.0.ssrc);
    rtx = λ x is. (
      positive x (λ e. h (IsIn-left 0 (ssrcs_in L) (flat_map ssrcs_in Ls) (inr (subst (λ n. IsIn n (option_to_list L.rtx)) (sym e) (given_in x L.rtx is))))),
      words.0.rtx x is,
    );
  },
  wide_lines Ls words.1 (λ i. h (IsIn-right 0 (ssrcs_in L) (flat_map ssrcs_in Ls) i)),
)

-- types of repairs are claimed

claimed_type : (pt rtx : ℕ) (ts : List PayloadType) → option_and_then (λ (t : PayloadType). t.rtx) (find (has_type pt) ts) ≡ Some rtx → IsIn rtx (flat_map claimed_in ts)
claimed_type pt rtx [] e = absurd cc
claimed_type pt rtx (t ∷ ts) e = elim (tested (has_type pt t)) [
  | inl is ↦ IsIn-left rtx (claimed_in t) (flat_map claimed_in ts) (inr (IsIn-left rtx (option_to_list t.rtx) (option_to_list t.red) (given_in rtx t.rtx (rw is at e))))
  | inr is ↦ IsIn-right rtx (claimed_in t) (flat_map claimed_in ts) (claimed_type pt rtx ts (rw is at e))
]

pub small_type : (ns : List ℕ) (n : ℕ) → list_any (nat_lt 127) ns ≡ false → IsIn n ns → n < 2 ^ 7
small_type ns n none i = elim (tested (nat_lt 127 n)) [
  | inl t ↦ absurd (false≢true (sym none ∙ any-from_in (nat_lt 127) n ns i t))
  | inr t ↦ omega (arith, ltb-false 127 n t)
]

-- the sides

for_side : (P : Side → Type 0) (side : Side) → P side → P (peer_of side) → (s : Side) → P s
for_side P A own other A = own
for_side P A own other B = other
for_side P B own other A = other
for_side P B own other B = own

pub fits : (cipher : CipherMeaning) (setup : Setup) (side : Side) → Facts setup → AllByRecursion HasWords (outgoing_of side setup) → AllByRecursion HasWords (outgoing_of (peer_of side) setup)
    → IsFit (config_of (sealing_of cipher setup) setup)
fits cipher setup side f own others = record {
  apart = λ s. lines_apart (outgoing_of s setup) (f.once s);
  words = for_side (λ s. AllByRecursion IsWide (outgoing_of s setup)) side
      (wide_lines (outgoing_of side setup) own (f.nonzero side))
      (wide_lines (outgoing_of (peer_of side) setup) others (f.nonzero (peer_of side)));
  rtx_types = λ pt rtx e. small_type (claimed_of setup) rtx f.small (claimed_type pt rtx setup.types e);
  threshold = f.pauses;
}
