-- The record of a side's incoming half is what is read off the events, and its ticks ask for what is due.
use Rattle.std.proofs.Common.{◌≡◌, inl, inr, ℕ, true, false, eqb, List, [], ◌∷◌, ◌++◌, map, refl, sym, ap, ◌∙◌, subst}
use Rattle.std.specs.Prelude.{◌==◌}
use Rattle.std.specs.List.{flat_map, fold, list_all}
use Rattle.std.proofs.lemmas.List.{append-nil}
use Rattle.std.proofs.lemmas.List.Sums.{fold-append}
use Rattle.std.proofs.lemmas.Bool.{and_parts, eq-eqb, eqb-true, false≢true}
use Rattle.repair_core.specs.Entries.{names}
use Rattle.rtcp_wire.specs.declared.rtcp_fb.RtcpFb.TheVariants.{Nack}
use Rattle.media_model.specs.declared.entry.Packet.{Packet}
use Rattle.rtcp_wire.specs.declared.rtcp_fb.RtcpFb.{RtcpFb}
use Rattle.run_model.specs.Events.{Event, wrote, ticked, called, got, sealed, sealed_items, opened, opened_items, yielded, Incoming}
use Rattle.run_model.specs.Listing.{IsIn}
use Rattle.run_model.specs.Sending.{named_on}
use Rattle.run_model.specs.Seals.{Sealing}
use Rattle.run_model.specs.TxPlay.{is_sealing}
use Rattle.run_model.specs.Receiving.{yields}
use Rattle.run_model.specs.RxPlay.{RxRecord, new_rx, lists_in}
use Rattle.run_model.specs.Asking.{RxSide, RxSetup, new_side, opened_in, ticked_side, side_step, side_of, owed, modulo, asked, IsOther, Feedback, none, besides, asks, owes_nothing, IsUnheard, RxSideStep, opens, ticks, hears, calls, passes, RxSidePlays, begun, step, NoneHas, MainsApart, RoundsAskTheDue}
use Rattle.media_laws.proofs.Lists.{tested}

yields_keep : (S : RxSetup) (ps : List Packet) (side : RxSide) → fold (side_step S) side (map yielded ps) ≡ side
yields_keep S [] side = refl
yields_keep S (p ∷ ps) side = yields_keep S ps side

sealings_keep : (S : RxSetup) (new : List Event) (side : RxSide) → list_all is_sealing new ≡ true → fold (side_step S) side new ≡ side
sealings_keep S [] side all = refl
sealings_keep S (e ∷ new) side all = let parts = and_parts (is_sealing e) (list_all is_sealing new) all in ap (λ s. fold (side_step S) s new) (one e parts.0) ∙ sealings_keep S new side parts.1
  where
    one : (e : Event) → is_sealing e ≡ true → side_step S side e ≡ side
    one (sealed ssrc n p bytes) is = refl
    one (sealed_items index items) is = refl
    one (wrote time w) is = absurd (false≢true is)
    one (ticked time) is = absurd (false≢true is)
    one (called time) is = absurd (false≢true is)
    one (got time kind bytes) is = absurd (false≢true is)
    one (opened ssrc n p) is = absurd (false≢true is)
    one (opened_items index items) is = absurd (false≢true is)
    one (yielded packet) is = refl

pub side_after : (S : RxSetup) (events new : List Event) → side_of S (events ++ new) ≡ fold (side_step S) (side_of S events) new
side_after S events new = fold-append (side_step S) (new_side S) events new

step_is : {S : RxSetup} {peer : Sealing} {a b : RxSide} {new : List Event} → RxSideStep S peer a b new → fold (side_step S) a new ≡ b
step_is {S} {a = a} (opens time bytes ssrc n p s i o) = yields_keep S (yields S.types s.0 (lists_in s.1) ssrc n p) (record a { now = time; table = map (opened_in S time ssrc n p) a.table })
step_is {S} {a = a} (ticks time new all feedback) = sealings_keep S new (ticked_side a time) all
step_is (hears time bytes index items) = refl
step_is (calls time index items) = refl
step_is (passes e unheard) = refl

-- the record of a side is what is read off its events
pub side_tracks : {S : RxSetup} {peer : Sealing} {a : RxSide} {events : List Event} → RxSidePlays S peer a events → side_of S events ≡ a
side_tracks begun = refl
side_tracks {S} (step {events = events} {new = new} h s) = side_after S events new ∙ ap (λ a. fold (side_step S) a new) (side_tracks h) ∙ step_is s

abbrev pub mains : List (Incoming × RxRecord) → List Incoming
mains table = map (λ s. s.0) table

map-lines : (f : Incoming × RxRecord → Incoming × RxRecord) → ((s : Incoming × RxRecord) → (f s).0 ≡ s.0) → (table : List (Incoming × RxRecord)) → mains (map f table) ≡ mains table
map-lines f keeps [] = refl
map-lines f keeps (s ∷ table) = ap (λ l. l ∷ mains (map f table)) (keeps s) ∙ ap (λ ls. s.0 ∷ ls) (map-lines f keeps table)

step_mains : {S : RxSetup} {peer : Sealing} {a b : RxSide} {new : List Event} → RxSideStep S peer a b new → mains b.table ≡ mains a.table
step_mains {S} {a = a} (opens time bytes ssrc n p s i o) = map-lines (opened_in S time ssrc n p) (λ s. refl) a.table
step_mains {a = a} (ticks time new all feedback) = map-lines _ (λ s. refl) a.table
step_mains (hears time bytes index items) = refl
step_mains (calls time index items) = refl
step_mains {S} {a = a} (passes e unheard) = one e unheard
  where
    one : (e : Event) → IsUnheard e → mains (side_step S a e).table ≡ mains a.table
    one (wrote time w) is = refl
    one (called time) is = refl
    one (got time kind bytes) is = refl
    one (sealed ssrc n p bytes) is = refl
    one (sealed_items index items) is = refl
    one (ticked time) is = absurd is
    one (opened ssrc n p) is = absurd is
    one (opened_items index items) is = absurd is
    one (yielded packet) is = absurd is

begun_mains : (Ls : List Incoming) → mains (map (λ L. (L, new_rx)) Ls) ≡ Ls
begun_mains [] = refl
begun_mains (L ∷ Ls) = ap (λ ls. L ∷ ls) (begun_mains Ls)

pub side_mains : {S : RxSetup} {peer : Sealing} {a : RxSide} {events : List Event} → RxSidePlays S peer a events → mains a.table ≡ S.streams
side_mains {S} begun = begun_mains S.streams
side_mains (step h s) = step_mains s ∙ side_mains h

-- the NACKs of a tick on one SSRC

other_names : (m : ℕ) (item : RtcpFb) → IsOther item → named_on m item ≡ []
other_names m (Nack media entries) is = absurd (false≢true is)
other_names m _ is = refl

-- none on an SSRC of no stream
none_asked : {side : RxSide} {time : ℕ} (m : ℕ) {table : List (Incoming × RxRecord)} {items : List RtcpFb} → Feedback side time table items → NoneHas m (mains table) → flat_map (named_on m) items ≡ []
none_asked m none away = refl
none_asked m (besides {items = items} item is f) away = ap (λ es. es ++ flat_map (named_on m) items) (other_names m item is) ∙ none_asked m f away
none_asked m (asks {items = items} s entries is f) away = rw (away.0) (none_asked m f away.1)
none_asked m (owes_nothing s is f) away = none_asked m f away.1

differs : (s : Incoming × RxRecord) (L : Incoming) (table : List (Incoming × RxRecord)) → NoneHas L.ssrc (mains table) → IsIn s table → (L.ssrc == s.0.ssrc) ≡ false
differs s L [] away i = absurd i
differs s L (t ∷ table) away (inl e) =
    elim (tested (eqb L.ssrc s.0.ssrc)) [
      | inl k ↦ absurd (false≢true (sym away.0 ∙ eq-eqb t.0.ssrc L.ssrc (ap (λ (u : Incoming × RxRecord). u.0.ssrc) (sym e) ∙ sym (eqb-true L.ssrc s.0.ssrc k))))
      | inr k ↦ k
    ]
differs s L (t ∷ table) away (inr i) = differs s L table away.1 i

asks_due : {side : RxSide} {time : ℕ} {table : List (Incoming × RxRecord)} {items : List RtcpFb} → Feedback side time table items → MainsApart (mains table) → (s : Incoming × RxRecord) → IsIn s table
    → flat_map names (flat_map (named_on s.0.ssrc) items) ≡ map modulo (owed side time s)
asks_due none apart s i = absurd i
asks_due (besides {items = items} item is f) apart s i =
    ap (λ es. flat_map names (es ++ flat_map (named_on s.0.ssrc) items)) (other_names s.0.ssrc item is) ∙ asks_due f apart s i
asks_due {side} {time} (asks {table = table} {items = items} t entries is f) apart s (inl e) =
    let own : (t.0.ssrc == s.0.ssrc) ≡ true = eq-eqb t.0.ssrc s.0.ssrc (ap (λ (u : Incoming × RxRecord). u.0.ssrc) (sym e)) in
    let rest : flat_map (named_on s.0.ssrc) items ≡ [] = none_asked s.0.ssrc f (subst (λ (u : Incoming × RxRecord). NoneHas u.0.ssrc (mains table)) (sym e) apart.0) in
    rw (own, rest) (ap (flat_map names) (append-nil entries) ∙ is ∙ ap (λ u. map modulo (owed side time u)) (sym e))
asks_due (asks {table = table} {items = items} t entries is f) apart s (inr i) =
    let away : (t.0.ssrc == s.0.ssrc) ≡ false = differs s t.0 table apart.0 i in rw away (asks_due f apart.1 s i)
asks_due {side} {time} (owes_nothing {table = table} t is f) apart s (inl e) =
    ap (flat_map names) (none_asked s.0.ssrc f (subst (λ (u : Incoming × RxRecord). NoneHas u.0.ssrc (mains table)) (sym e) apart.0)) ∙ ap (map modulo) (sym is ∙ ap (owed side time) (sym e))
asks_due (owes_nothing t is f) apart s (inr i) = asks_due f apart.1 s i

tick_asks : {S : RxSetup} {peer : Sealing} {a b : RxSide} (time : ℕ) (new all : List Event) → all ≡ ticked time ∷ new → RxSideStep S peer a b all → MainsApart (mains a.table) → (s : Incoming × RxRecord) → IsIn s a.table
    → asked s.0.ssrc new ≡ map modulo (owed a time s)
tick_asks time new all e (opens t bytes ssrc n p u i o) apart s j = absurd cc
tick_asks {a = a} time new all e (ticks t more sealing f) apart s j =
    let same : t ≡ time = cc in
    let rest : more ≡ new = cc in
    subst (λ es. asked s.0.ssrc es ≡ map modulo (owed a time s)) rest (subst (λ m. asked s.0.ssrc more ≡ map modulo (owed a m s)) same (asks_due f apart s j))
tick_asks time new all e (hears t bytes index items) apart s j = absurd cc
tick_asks time new all e (calls t index items) apart s j = absurd cc
tick_asks time new all e (passes f unheard) apart s j =
    let is : f ≡ ticked time = cc in absurd (subst IsUnheard is unheard)

pub rounds_ask_the_due : RoundsAskTheDue
rounds_ask_the_due S peer a b events time new apart h tick s i =
    let same = side_tracks h in
    subst (λ (z : RxSide). asked s.0.ssrc new ≡ map modulo (owed z time s)) (sym same)
    (tick_asks time new (ticked time ∷ new) refl tick (subst MainsApart (sym (side_mains h)) apart) s (subst (λ (z : RxSide). IsIn s z.table) same i))
