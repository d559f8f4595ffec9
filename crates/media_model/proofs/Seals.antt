-- Whether the datagrams that were opened are the other side's seals.
use Rattle.std.proofs.Common.{◌≡◌, ℕ, ◌+◌, ◌<◌, ◌≤◌, Bool, true, false, cond, ◌&&◌, ◌||◌, List, [], ◌∷◌, ◌++◌, length, take, drop, get_or, Some, refl, sym, ap, ◌∙◌, add-one}
use Rattle.std.specs.Prelude.{◌==◌}
use Rattle.std.specs.List.{list_any}
use Rattle.std.specs.Str.{bytes_eq}
use Rattle.std.specs.HashSet.{HashSet, contains}
use Rattle.std.proofs.Math.Seq.{drop-cons}
use Rattle.std.proofs.lemmas.List.{take_more, drop_all}
use Rattle.media_model.specs.declared.entry.Side.{Side}
use Rattle.media_model.specs.declared.entry.Side.TheVariants.{A, B}
use Rattle.rtp_base.specs.declared.kind.Kind.{Kind}
use Rattle.rtp_base.specs.declared.kind.Kind.TheVariants.{Rtp, Rtcp}
use Rattle.media_model.specs.declared.entry.Sealed.{Sealed as SealedEntry}
use Rattle.media_model.specs.declared.entry.Opened.{Opened as OpenedEntry}
use Rattle.media_model.specs.declared.entry.Entry.{Entry}
use Rattle.media_model.specs.declared.entry.Entry.TheVariants.{Wrote, Ticked, Called, Got, Sealed, Opened, Yielded}
use Rattle.media_model.specs.declared.genuine.Seal.{Seal}
use Rattle.media_model.specs.declared.genuine.Latest.{Latest}
use Rattle.media_model.specs.contracts.entry.Side as side
use Rattle.rtp_base.specs.contracts.kind.Kind as kind
use denote.Enum.Bare.{sameb}
use Rattle.media_model.specs.Seals.{same_seal, is_seal, HasSeals, latest_of, HasLatest}
use Rattle.rtp_base.specs.Kind.{same_kind}
use Rattle.media_model.specs.Sides.{peer_of, same_side}
use Rattle.media_model.specs.Genuine.{seals, some_seals, is_genuine_after, genuine_from, is_genuine}

or_false : (b : Bool) → (b || false) ≡ b
or_false true = refl
or_false false = refl

any_more : {X : Type 0} (test : X → Bool) (front : List X) (e : X) → list_any test (front ++ e ∷ []) ≡ (list_any test front || test e)
any_more test [] e = or_false (test e)
any_more test (x ∷ front) e = go (any_more test front e) (test x) where
  go : list_any test (front ++ e ∷ []) ≡ (list_any test front || test e) → (b : Bool) → (b || list_any test (front ++ e ∷ [])) ≡ ((b || list_any test front) || test e)
  go more true = refl
  go more false = more

side_test : (a b : Side) → sameb side.the_type a b ≡ same_side a b
side_test A A = refl
side_test A B = refl
side_test B A = refl
side_test B B = refl

kind_test : (a b : Kind) → sameb kind.the_type a b ≡ same_kind a b
kind_test Rtp Rtp = refl
kind_test Rtp Rtcp = refl
kind_test Rtcp Rtp = refl
kind_test Rtcp Rtcp = refl

-- a seal that is put in is found as its entry is
seal_test : (a q : Seal) → same_seal a q ≡ (same_side a.side q.side && (same_kind a.kind q.kind && ((a.ssrc == q.ssrc) && ((a.index == q.index) && bytes_eq a.bytes.now q.bytes.now))))
seal_test a q =
    ap (λ b. b && (sameb kind.the_type a.kind q.kind && ((a.ssrc == q.ssrc) && ((a.index == q.index) && bytes_eq a.bytes.now q.bytes.now)))) (side_test a.side q.side)
    ∙ ap (λ b. same_side a.side q.side && (b && ((a.ssrc == q.ssrc) && ((a.index == q.index) && bytes_eq a.bytes.now q.bytes.now)))) (kind_test a.kind q.kind)

cond_or : (a b : Bool) → cond a true b ≡ (b || a)
cond_or true true = refl
cond_or true false = refl
cond_or false true = refl
cond_or false false = refl

-- a seal that was put in
pub seal_more : {S : Type 0} (sealed more : HashSet Seal S) (before : List Entry) (e : Entry) (s : SealedEntry) (a : Seal) → e ≡ Sealed s
    → a.side ≡ s.side → a.kind ≡ s.kind → a.ssrc ≡ s.ssrc → a.index ≡ s.index → a.bytes.now ≡ s.bytes
    → ((q : Seal) → contains same_seal more q ≡ cond (same_seal a q) true (contains same_seal sealed q)) → HasSeals sealed before → HasSeals more (before ++ e ∷ [])
seal_more sealed more before e s a is side kind ssrc index bytes updated has q =
    updated q
    ∙ ap (λ b. cond b true (contains same_seal sealed q)) (seal_test a q ∙ same ∙ sym (ap (is_seal q) is))
    ∙ cond_or (is_seal q e) (contains same_seal sealed q)
    ∙ ap (λ b. b || is_seal q e) (has q)
    ∙ sym (any_more (is_seal q) before e)
  where
    same : (same_side a.side q.side && (same_kind a.kind q.kind && ((a.ssrc == q.ssrc) && ((a.index == q.index) && bytes_eq a.bytes.now q.bytes.now)))) ≡ is_seal q (Sealed s)
    same = λ j. same_side (side j) q.side && (same_kind (kind j) q.kind && ((ssrc j == q.ssrc) && ((index j == q.index) && bytes_eq (bytes j) q.bytes.now)))

-- a datagram that was opened is looked for among the seals
any_same : (f g : Entry → Bool) → ((e : Entry) → f e ≡ g e) → (es : List Entry) → list_any f es ≡ list_any g es
any_same f g same [] = refl
any_same f g same (e ∷ es) = λ j. same e j || any_same f g same es j

pub looked_up : {S : Type 0} (sealed : HashSet Seal S) (latest : Latest) (before : List Entry) (e : Entry) (o : OpenedEntry) (bytes : List ℕ) (q : Seal) → e ≡ Opened o
    → latest_of o.side latest ≡ Some bytes → q.side ≡ peer_of o.side → q.kind ≡ o.kind → q.ssrc ≡ o.ssrc → q.index ≡ o.index → q.bytes.now ≡ bytes
    → HasSeals sealed before → HasLatest latest before → contains same_seal sealed q ≡ is_genuine_after before e
looked_up sealed latest before e o bytes q is came side kind ssrc index same has last =
    has q ∙ any_same (is_seal q) (seals o bytes) each before
    ∙ ap (some_seals before o) (sym came ∙ last o.side) ∙ sym (ap (is_genuine_after before) is)
  where
    each : (x : Entry) → is_seal q x ≡ seals o bytes x
    each (Sealed s) = λ j. same_side s.side (side j) && (same_kind s.kind (kind j) && ((s.ssrc == ssrc j) && ((s.index == index j) && bytes_eq s.bytes (same j))))
    each (Wrote s t w) = refl
    each (Ticked s t) = refl
    each (Called s t c) = refl
    each (Got g) = refl
    each (Opened p) = refl
    each (Yielded s p) = refl

-- the loop over the entries
module _ (entries : List Entry) (i : ℕ) (lt : i < length entries) (e : Entry) (is : e ≡ get_or entries i e) where
  pub front_more : take (i + 1) entries ≡ take i entries ++ e ∷ []
  front_more = take_more entries i e lt ∙ ap (λ (x : Entry). take i entries ++ x ∷ []) (sym is)

  pub back : drop i entries ≡ e ∷ drop (i + 1) entries
  back = drop-cons entries i e lt ∙ (λ j. sym is j ∷ drop (sym (add-one i) j) entries)

  pub goes_on : is_genuine_after (take i entries) e ≡ true → (whole : Bool) → genuine_from (take i entries) (drop i entries) ≡ whole → genuine_from (take (i + 1) entries) (drop (i + 1) entries) ≡ whole
  unfolding genuine_from
  goes_on ok whole so_far =
      ap (λ (f : List Entry). genuine_from f (drop (i + 1) entries)) front_more
      ∙ sym (ap (genuine_from (take i entries)) back ∙ ap (λ b. b && genuine_from (take i entries ++ e ∷ []) (drop (i + 1) entries)) ok) ∙ so_far

  pub stops : is_genuine_after (take i entries) e ≡ false → (whole : Bool) → genuine_from (take i entries) (drop i entries) ≡ whole → false ≡ whole
  unfolding genuine_from
  stops not_so whole so_far = sym (ap (genuine_from (take i entries)) back ∙ ap (λ b. b && genuine_from (take i entries ++ e ∷ []) (drop (i + 1) entries)) not_so) ∙ so_far

-- what is kept of the entries before index i
pub record Knows {S : Type 0} (entries : List Entry) (i : ℕ) (sealed : HashSet Seal S) (latest : Latest) : Type 0 where
  pub rest : genuine_from (take i entries) (drop i entries) ≡ is_genuine entries
  pub seals : HasSeals sealed (take i entries)
  pub last : HasLatest latest (take i entries)

-- all entries were looked at
pub all_passed : {S : Type 0} (entries : List Entry) (i : ℕ) (sealed : HashSet Seal S) (latest : Latest) → length entries ≤ i → Knows entries i sealed latest → true ≡ is_genuine entries
unfolding genuine_from
all_passed entries i sealed latest le knows = sym (ap (genuine_from (take i entries)) (drop_all i entries le)) ∙ knows.rest
