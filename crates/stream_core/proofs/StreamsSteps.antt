-- A call on the streams of a session.
use Rattle.std.proofs.Common.{◌≡◌, ℕ, zero, suc, true, false, [], ◌∷◌, ◌++◌, Option, Some, None, is_some, slice_get, refl, sym, subst, ap, ◌∙◌}
use Rattle.std.specs.Prelude.{List, Bool, if◌then◌else◌}
use Rattle.std.specs.Map.{values_of}
use Rattle.std.specs.Option.{option_map_or}
use Rattle.indexmap.specs.IndexMap.{set_value_at}
use Rattle.mapping_core.specs.Streams.{with_stream}
use Rattle.mapping_core.specs.declared.mapping.MainChange.{MainChange}
use Rattle.mapping_core.specs.declared.mapping.RepairsChange.{RepairsChange}
use Rattle.mapping_core.specs.declared.stream.IncomingStream.{IncomingStream}
use Rattle.repair_core.specs.Rounds.{Heard}
use Rattle.resend_core.specs.ResendStore.{Past}
use Rattle.stream_core.specs.Known.{KnownRecord, put_original, with_known, without_known, with_main, with_repairs}
use Rattle.stream_core.specs.Repairing.{SentPacket}
use Rattle.stream_core.specs.RxRecord.{RxView, RxRecord, expected, moved_to, repaired_under, StandsFor as RxStandsFor}
use Rattle.stream_core.specs.StreamsRecord.{StreamsView, StreamsRecord, StandsFor, with_original, known_with, first_known, with_stream_rx, without_stream_rx, with_main_rx, moved_at, with_repairs_rx}
use Rattle.stream_core.specs.Tables.{place_of, with_new, without_key, change_place, change_at, renamed, Along}
use Rattle.stream_core.proofs.Alongside.{place_along, change_along, change_at_along, change_at_none}
use Rattle.stream_core.proofs.TableSteps.{same_place, along_there, along_new, without_along}

original_there : {X : Type 0} (ssrc : ℕ) (rtx : Option ℕ) (rs : List (ℕ × X)) (os : List (ℕ × ℕ)) → is_some (place_of ssrc rs) ≡ true → with_original ssrc rtx rs os ≡ os
original_there ssrc None rs os h = refl
original_there ssrc (Some rtx) rs os h = ap (λ b. if b then os else with_new rtx ssrc os) h

original_new : {X : Type 0} (ssrc : ℕ) (rtx : Option ℕ) (rs : List (ℕ × X)) (os : List (ℕ × ℕ)) → is_some (place_of ssrc rs) ≡ false → with_original ssrc rtx rs os ≡ put_original ssrc rtx os
original_new ssrc None rs os h = refl
original_new ssrc (Some rtx) rs os h = ap (λ b. if b then os else with_new rtx ssrc os) h

known_there : {X : Type 0} (s : IncomingStream) (rs : List (ℕ × X)) (k : KnownRecord) → is_some (place_of s.ssrc rs) ≡ true → known_with s rs k ≡ k
known_there s rs k h =
    λ j. record {
      originals = original_there s.ssrc s.rtx rs k.originals h j;
      streams = if h j then k.streams else with_stream s k.streams;
    }

known_new : {X : Type 0} (s : IncomingStream) (rs : List (ℕ × X)) (k : KnownRecord) → is_some (place_of s.ssrc rs) ≡ false → known_with s rs k ≡ with_known s k
known_new s rs k h =
    λ j. record {
      originals = original_new s.ssrc s.rtx rs k.originals h j;
      streams = if h j then k.streams else with_stream s k.streams;
    }

module _ {A B : Type 0} (R : A → B → Type 0) where
  -- a key of both tables becomes another one
  renamed_along : (k : ℕ) (xs : List (ℕ × A)) (ys : List (ℕ × B)) (i : ℕ) → Along R xs ys → Along R (renamed k xs i) (renamed k ys i)
  renamed_along k [] [] i h = h
  renamed_along k [] (y ∷ ys) i h = absurd h
  renamed_along k (x ∷ xs) [] i h = absurd h
  renamed_along k (x ∷ xs) (y ∷ ys) zero h = ((refl, h.0.1), h.1)
  renamed_along k (x ∷ xs) (y ∷ ys) (suc i) h = (h.0, renamed_along k xs ys i h.1)

module _ {W S : Type 0} (remembers : W → Heard → Type 0) (stands_for : S → Past SentPacket → Type 0) (ssrc : ℕ) where
  -- there is such a stream
  pub rx_there : (s inside : StreamsView W S) (found rtx : Option ℕ) (mid : List ℕ) (rid : Option (List ℕ)) (suppressed : Bool) → inside ≡ s → found ≡ place_of ssrc inside.rx → is_some found ≡ true
      → (r : StreamsRecord) → StandsFor remembers stands_for s r → StandsFor remembers stands_for s (with_stream_rx ssrc rtx mid rid suppressed r)
  rx_there s inside found rtx mid rid suppressed view place is r h =
      let here : is_some (place_of ssrc s.rx) ≡ true = ap (λ (v : StreamsView W S). is_some (place_of ssrc v.rx)) (sym view) ∙ sym (ap is_some place) ∙ is in
      let stream : IncomingStream = first_known ssrc rtx mid rid suppressed in
      record {
        threshold = h.threshold;
        rx = along_there (RxStandsFor remembers) s.rx r.rx ssrc (expected ssrc rtx mid rid suppressed r.threshold) h.rx here;
        known = h.known ∙ sym (known_there stream r.rx r.known (same_place (RxStandsFor remembers) s.rx r.rx ssrc true h.rx here));
        tx = h.tx;
        repairs = h.repairs;
      }

  -- a new stream is put behind the others
  pub rx_new : (s inside : StreamsView W S) (found rtx : Option ℕ) (mid : List ℕ) (rid : Option (List ℕ)) (suppressed : Bool) (x : RxView W) (rx : List (ℕ × RxView W)) (known : KnownRecord)
      → inside ≡ s → found ≡ place_of ssrc inside.rx → is_some found ≡ false
      → RxStandsFor remembers x (expected ssrc rtx mid rid suppressed inside.threshold) → rx ≡ inside.rx ++ (ssrc, x) ∷ [] → known ≡ with_known (first_known ssrc rtx mid rid suppressed) inside.known
      → (r : StreamsRecord) → StandsFor remembers stands_for s r
      → StandsFor remembers stands_for (record inside { rx = rx; known = known }) (with_stream_rx ssrc rtx mid rid suppressed r)
  rx_new s inside found rtx mid rid suppressed x rx known view place is stands added put r h =
      let mine = subst (λ v. StandsFor remembers stands_for v r) (sym view) h in
      let stream : IncomingStream = first_known ssrc rtx mid rid suppressed in
      let same : RxStandsFor remembers x (expected ssrc rtx mid rid suppressed r.threshold) = subst (λ n. RxStandsFor remembers x (expected ssrc rtx mid rid suppressed n)) mine.threshold stands in
      let none : is_some (place_of ssrc inside.rx) ≡ false = sym (ap is_some place) ∙ is in
      record {
        threshold = mine.threshold;
        rx = subst (λ l. Along (RxStandsFor remembers) l (with_new ssrc (expected ssrc rtx mid rid suppressed r.threshold) r.rx)) (sym added)
            (along_new (RxStandsFor remembers) inside.rx r.rx ssrc x (expected ssrc rtx mid rid suppressed r.threshold) mine.rx same none);
        known = put ∙ ap (with_known stream) mine.known ∙ sym (known_new stream r.rx r.known (same_place (RxStandsFor remembers) inside.rx r.rx ssrc false mine.rx none));
        tx = mine.tx;
        repairs = mine.repairs;
      }

  -- a stream is taken out
  pub rx_removed : (s inside : StreamsView W S) (rx : List (ℕ × RxView W)) (known : KnownRecord) → inside ≡ s → rx ≡ without_key ssrc inside.rx → known ≡ without_known ssrc inside.known
      → (r : StreamsRecord) → StandsFor remembers stands_for s r → StandsFor remembers stands_for (record inside { rx = rx; known = known }) (without_stream_rx ssrc r)
  rx_removed s inside rx known view removed gone r h =
      let mine = subst (λ v. StandsFor remembers stands_for v r) (sym view) h in
      record {
        threshold = mine.threshold;
        rx = subst (λ l. Along (RxStandsFor remembers) l (without_key ssrc r.rx)) (sym removed) (without_along (RxStandsFor remembers) inside.rx r.rx ssrc mine.rx);
        known = gone ∙ ap (without_known ssrc) mine.known;
        tx = mine.tx;
        repairs = mine.repairs;
      }

  -- a stream changes
  pub rx_changed : (s inside : StreamsView W S) (i : ℕ) (x new : RxView W) (f : RxRecord → RxRecord) (rx : List (ℕ × RxView W)) → inside ≡ s → slice_get (values_of inside.rx) i ≡ Some x
      → ((y : RxRecord) → RxStandsFor remembers x y → RxStandsFor remembers new (f y)) → rx ≡ set_value_at inside.rx i new
      → (r : StreamsRecord) → StandsFor remembers stands_for s r → place_of ssrc s.rx ≡ Some i → StandsFor remembers stands_for (record inside { rx = rx }) (record r { rx = change_at ssrc f r.rx })
  rx_changed s inside i x new f rx view at step changed r h place =
      let mine = subst (λ v. StandsFor remembers stands_for v r) (sym view) h in
      let found : place_of ssrc inside.rx ≡ Some i = ap (λ (v : StreamsView W S). place_of ssrc v.rx) view ∙ place in
      record {
        threshold = mine.threshold;
        known = mine.known;
        rx = subst (λ l. Along (RxStandsFor remembers) l (change_at ssrc f r.rx)) (sym changed)
            (change_at_along (RxStandsFor remembers) inside.rx r.rx ssrc i x new f mine.rx found at step);
        tx = mine.tx;
        repairs = mine.repairs;
      }

module _ {W S : Type 0} (remembers : W → Heard → Type 0) (stands_for : S → Past SentPacket → Type 0) (c : MainChange) where
  abbrev R : RxView W → RxRecord → Type 0
  R = RxStandsFor remembers

  -- another stream has the SSRC to which one is to change
  pub main_there : (s inside : StreamsView W S) (found : Option ℕ) → inside ≡ s → found ≡ place_of c.to inside.rx → is_some found ≡ true
      → (r : StreamsRecord) → StandsFor remembers stands_for s r → StandsFor remembers stands_for s (with_main_rx c r)
  main_there s inside found view place is r h =
      let here : is_some (place_of c.to s.rx) ≡ true = ap (λ (v : StreamsView W S). is_some (place_of c.to v.rx)) (sym view) ∙ sym (ap is_some place) ∙ is in
      let there = same_place R s.rx r.rx c.to true h.rx here in
      subst (StandsFor remembers stands_for s) (sym (ap (λ b. if b then r else option_map_or (moved_at c r) (place_of c.from r.rx) r) there)) h

  module _ (s inside : StreamsView W S) (found : Option ℕ) (view : inside ≡ s) (place : found ≡ place_of c.to inside.rx) (none : is_some found ≡ false) (r : StreamsRecord) (h : StandsFor remembers stands_for s r) where
    mine : StandsFor remembers stands_for inside r
    mine = subst (λ v. StandsFor remembers stands_for v r) (sym view) h

    moves : (o : Option ℕ) → place_of c.from inside.rx ≡ o → with_main_rx c r ≡ option_map_or (moved_at c r) o r
    moves o is =
        let away = same_place R inside.rx r.rx c.to false mine.rx (sym (ap is_some place) ∙ none) in
        ap (λ b. if b then r else option_map_or (moved_at c r) (place_of c.from r.rx) r) away
        ∙ ap (λ o. option_map_or (moved_at c r) o r) (sym (place_along R inside.rx r.rx c.from mine.rx) ∙ is)

    -- there is no stream that could change
    pub main_absent : place_of c.from inside.rx ≡ None → StandsFor remembers stands_for s (with_main_rx c r)
    main_absent is = subst (StandsFor remembers stands_for s) (sym (moves None is)) h

    -- the stream stands in its place under the other SSRC
    pub main_moved : (i : ℕ) (x y : RxView W) (between rx : List (ℕ × RxView W)) (known : KnownRecord) → place_of c.from inside.rx ≡ Some i → between ≡ renamed c.to inside.rx i
        → slice_get (values_of between) i ≡ Some x → ((z : RxRecord) → R x z → R y (moved_to c.to z)) → rx ≡ set_value_at between i y → known ≡ with_main c inside.known
        → StandsFor remembers stands_for (record inside { rx = rx; known = known }) (with_main_rx c r)
    main_moved i x y between rx known is named at step changed put =
        subst (StandsFor remembers stands_for (record inside { rx = rx; known = known })) (sym (moves (Some i) is)) (record {
          threshold = mine.threshold;
          rx = subst (λ l. Along R l (change_place (moved_to c.to) (renamed c.to r.rx i) i)) (sym changed)
              (change_along R between (renamed c.to r.rx i) i x y (moved_to c.to)
              (subst (λ l. Along R l (renamed c.to r.rx i)) (sym named) (renamed_along R c.to inside.rx r.rx i mine.rx)) at step);
          known = put ∙ ap (with_main c) mine.known;
          tx = mine.tx;
          repairs = mine.repairs;
        })

module _ {W S : Type 0} (remembers : W → Heard → Type 0) (stands_for : S → Past SentPacket → Type 0) (c : RepairsChange) (s inside : StreamsView W S) (known : KnownRecord)
    (view : inside ≡ s) (put : known ≡ with_repairs c inside.known) (r : StreamsRecord) (h : StandsFor remembers stands_for s r) where
  before : StandsFor remembers stands_for inside r
  before = subst (λ v. StandsFor remembers stands_for v r) (sym view) h

  -- the repairs of a stream change their SSRC
  pub repairs_moved : (i : ℕ) (x y : RxView W) (rx : List (ℕ × RxView W)) → place_of c.main inside.rx ≡ Some i → slice_get (values_of inside.rx) i ≡ Some x
      → ((z : RxRecord) → RxStandsFor remembers x z → RxStandsFor remembers y (repaired_under c.rtx z)) → rx ≡ set_value_at inside.rx i y
      → StandsFor remembers stands_for (record inside { rx = rx; known = known }) (with_repairs_rx c r)
  repairs_moved i x y rx is at step changed = record {
    threshold = before.threshold;
    rx = subst (λ l. Along (RxStandsFor remembers) l (change_at c.main (repaired_under c.rtx) r.rx)) (sym changed)
        (change_at_along (RxStandsFor remembers) inside.rx r.rx c.main i x y (repaired_under c.rtx) before.rx is at step);
    known = put ∙ ap (with_repairs c) before.known;
    tx = before.tx;
    repairs = before.repairs;
  }

  pub repairs_absent : place_of c.main inside.rx ≡ None → StandsFor remembers stands_for (record inside { known = known }) (with_repairs_rx c r)
  repairs_absent is = record {
    threshold = before.threshold;
    rx = change_at_none (RxStandsFor remembers) inside.rx r.rx c.main (repaired_under c.rtx) before.rx is;
    known = put ∙ ap (with_repairs c) before.known;
    tx = before.tx;
    repairs = before.repairs;
  }
