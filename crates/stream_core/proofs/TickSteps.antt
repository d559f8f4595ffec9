-- What incoming streams say in a tick, one after the other.
use Rattle.std.proofs.Common.{◌≡◌, ℕ, zero, suc, ◌+◌, ◌-◌, ◌<◌, ◌≤◌, ◌⊎◌, inl, inr, Bool, true, false, List, [], ◌∷◌, ◌++◌, Some, None, length, take, drop, slice_get, refl, sym, ap, subst, ◌∙◌, add-one, arith, length-append}
use Rattle.std.proofs.lemmas.List.{take_all, take_at, drop_at, append-nil, append_assoc}
use Rattle.std.specs.Prelude.{if◌then◌else◌, ◌||◌, Option, is_some}
use Rattle.std.specs.List.{AllByRecursion, flat_map}
use Rattle.std.specs.Map.{values_of}
use Rattle.indexmap.specs.IndexMap.{set_value_at}
use Rattle.rtcp_wire.specs.declared.packet.Rtcp.{Rtcp}
use Rattle.repair_core.specs.Rounds.{Heard}
use Rattle.stream_core.specs.declared.reports.Tick.{Tick}
use Rattle.rtp_base.specs.declared.keyframe_request.KeyframeRequestKind.{KeyframeRequestKind}
use Rattle.rtp_base.specs.declared.keyframe_request.KeyframeRequestKind.TheVariants.{Pli, Fir}
use Rattle.stream_core.specs.declared.requests.RxRequests.{RxRequests}
use Rattle.stream_core.specs.Reporting.{is_among, reported, with_told, after_front, after_asking, front_items, front_count, fronts_with, fronts_count, rx_items, rx_after, items_with, after_with, report_items, any_request}
use Rattle.stream_core.specs.Missing.{nack_of, after_round}
use Rattle.stream_core.specs.Pauses.{on_view, on_record}
use Rattle.stream_core.specs.Requests.{one_of, is_request, request_count, request_items, keyframe_with, bitrate_with}
use Rattle.stream_core.specs.RxRecord.{RxState, RxView, RxRecord, StandsFor}
use Rattle.stream_core.specs.Tables.{Along}
use Rattle.stream_core.proofs.Alongside.{value_along, each_along}
use Rattle.stream_core.proofs.RxSteps.{state_step, among_some}

-- what holds of each item of a list holds of each but those in front
pub all_rest : (P : Rtcp → Type 0) (n : ℕ) (xs : List Rtcp) → AllByRecursion P xs → AllByRecursion P (drop n xs)
all_rest P zero [] h = h
all_rest P zero (x ∷ xs) h = h
all_rest P (suc n) [] h = h
all_rest P (suc n) (x ∷ xs) h = all_rest P n xs h.1

-- so many items ask for so much
length_keyframe : (sender ssrc number : ℕ) (o : Option KeyframeRequestKind) → length (keyframe_with sender ssrc number o) ≡ one_of o
length_keyframe sender ssrc number None = refl
length_keyframe sender ssrc number (Some Pli) = refl
length_keyframe sender ssrc number (Some Fir) = refl

length_bitrate : (sender ssrc : ℕ) (o : Option ℕ) → length (bitrate_with sender ssrc o) ≡ one_of o
length_bitrate sender ssrc None = refl
length_bitrate sender ssrc (Some rate) = refl

length_requests : (sender ssrc : ℕ) (q : RxRequests) → length (request_items sender ssrc q) ≡ request_count q
length_requests sender ssrc q =
    length-append (keyframe_with sender ssrc q.fir_number q.keyframe) (bitrate_with sender ssrc q.bitrate)
    ∙ (λ j. length_keyframe sender ssrc q.fir_number q.keyframe j + length_bitrate sender ssrc q.bitrate j)

length_reports : (t : Tick) (r : RxRecord) (b : Bool) → length (if b then report_items t r else []) ≡ (if b then 2 else 0)
length_reports t r true = refl
length_reports t r false = refl

length_front : (t : Tick) (b : Bool) (r : RxRecord) → length (front_items t b r) ≡ front_count b r.state
length_front t b r =
    length-append (request_items t.sender_ssrc r.state.ssrc r.state.requests) (if b then report_items t r else [])
    ∙ (λ j. length_requests t.sender_ssrc r.state.ssrc r.state.requests j + length_reports t r b j)

-- where nothing is asked no item asks for it
none_asked : {K B : Type 0} (o : Option K) (p : Option B) → (is_some o || is_some p) ≡ false → one_of o + one_of p ≡ 0
none_asked None None h = refl
none_asked None (Some x) h = absurd cc
none_asked (Some x) p h = absurd cc

-- the items of one stream more, behind those of the streams before it, and before those of the streams after it
module _ (f : RxRecord → List Rtcp) where
  abbrev pub all_of : List (ℕ × RxRecord) → List Rtcp
  all_of rs = flat_map (λ e. f e.1) rs

  front_suc : (rs : List (ℕ × RxRecord)) (i : ℕ) (r : RxRecord) → slice_get (values_of rs) i ≡ Some r → all_of (take i rs) ++ f r ≡ all_of (take (suc i) rs)
  front_suc [] i r at = absurd cc
  front_suc (e ∷ es) zero r at = let same : r ≡ e.1 = cc in ap f same ∙ sym (append-nil (f e.1))
  front_suc (e ∷ es) (suc i) r at = append_assoc (f e.1) (all_of (take i es)) (f r) ∙ ap (λ l. f e.1 ++ l) (front_suc es i r at)

  pub front_more : (rs : List (ℕ × RxRecord)) (i : ℕ) (r : RxRecord) → slice_get (values_of rs) i ≡ Some r → all_of (take i rs) ++ f r ≡ all_of (take (i + 1) rs)
  front_more rs i r at = front_suc rs i r at ∙ ap (λ n. all_of (take n rs)) (sym (add-one i))

  rest_suc : (rs : List (ℕ × RxRecord)) (i : ℕ) (r : RxRecord) → slice_get (values_of rs) i ≡ Some r → all_of (drop i rs) ≡ f r ++ all_of (drop (suc i) rs)
  rest_suc [] i r at = absurd cc
  rest_suc (e ∷ es) zero r at = let same : e.1 ≡ r = cc in ap (λ x. f x ++ all_of es) same
  rest_suc (e ∷ es) (suc i) r at = rest_suc es i r at

  pub rest_less : (rs : List (ℕ × RxRecord)) (i : ℕ) (r : RxRecord) → slice_get (values_of rs) i ≡ Some r → all_of (drop i rs) ≡ f r ++ all_of (drop (i + 1) rs)
  rest_less rs i r at = rest_suc rs i r at ∙ ap (λ n. f r ++ all_of (drop n rs)) (sym (add-one i))

-- how many items these are
module _ {W : Type 0} (mids : List (List ℕ)) where
  abbrev pub count_of : RxView W → ℕ
  count_of x = front_count (is_among x.state.mid mids) x.state

  counted_suc : (xs : List (ℕ × RxView W)) (i : ℕ) (x : RxView W) → slice_get (values_of xs) i ≡ Some x
      → fronts_count mids (take (suc i) xs) ≡ fronts_count mids (take i xs) + count_of x
  counted_suc [] i x at = absurd cc
  counted_suc (e ∷ es) zero x at = let same : e.1 ≡ x = cc in let here = ap count_of same in omega arith
  counted_suc (e ∷ es) (suc i) x at = let rest = counted_suc es i x at in omega arith

  pub counted_more : (xs : List (ℕ × RxView W)) (i : ℕ) (x : RxView W) → slice_get (values_of xs) i ≡ Some x
      → fronts_count mids (take (i + 1) xs) ≡ fronts_count mids (take i xs) + count_of x
  counted_more xs i x at = ap (λ n. fronts_count mids (take n xs)) (add-one i) ∙ counted_suc xs i x at

  left_suc : (xs : List (ℕ × RxView W)) (i : ℕ) (x new : RxView W) → slice_get (values_of xs) i ≡ Some x
      → fronts_count mids (drop i xs) ≡ count_of x + fronts_count mids (drop (suc i) (set_value_at xs i new))
  left_suc [] i x new at = absurd cc
  left_suc (e ∷ es) zero x new at = let same : e.1 ≡ x = cc in ap (λ v. count_of v + fronts_count mids es) same
  left_suc (e ∷ es) (suc i) x new at = left_suc es i x new at

  -- after one stream more said what it says
  pub left_less : (xs : List (ℕ × RxView W)) (i : ℕ) (x new : RxView W) → slice_get (values_of xs) i ≡ Some x
      → fronts_count mids (drop i xs) ≡ count_of x + fronts_count mids (drop (i + 1) (set_value_at xs i new))
  left_less xs i x new at = left_suc xs i x new at ∙ ap (λ n. count_of x + fronts_count mids (drop n (set_value_at xs i new))) (sym (add-one i))

  -- where one stream says something
  pub some_counted : (xs : List (ℕ × RxView W)) (i : ℕ) (x : RxView W) → slice_get (values_of xs) i ≡ Some x → 0 < count_of x → 0 < fronts_count mids xs
  some_counted [] i x at some = absurd cc
  some_counted (e ∷ es) zero x at some = let same : e.1 ≡ x = cc in let here = ap count_of same in omega arith
  some_counted (e ∷ es) (suc i) x at some = let rest = some_counted es i x at some in omega arith

  -- only a report that is due, and what is asked, make an item
  pub counted_cause : (remembers : W → Heard → Type 0) (xs : List (ℕ × RxView W)) (rs : List (ℕ × RxRecord)) → Along (StandsFor remembers) xs rs → 0 < fronts_count mids xs
      → (mids ≡ [] → ⊥) ⊎ (any_request rs ≡ true)
  counted_cause remembers [] [] h some = absurd (omega arith)
  counted_cause remembers [] (r ∷ rs) h some = absurd h
  counted_cause remembers (x ∷ xs) [] h some = absurd h
  counted_cause remembers (x ∷ xs) (r ∷ rs) h some = by (is_among x.1.state.mid mids) refl (is_request x.1.state.requests) refl (λ rest. counted_cause remembers xs rs h.1 rest)
    where
      asks : (b : Bool) → is_request x.1.state.requests ≡ b → is_request r.1.state.requests ≡ b
      asks b k = ap (λ (s : RxState). is_request s.requests) (sym h.0.1.state) ∙ k

      by : (b : Bool) → is_among x.1.state.mid mids ≡ b → (c : Bool) → is_request x.1.state.requests ≡ c
          → (0 < fronts_count mids xs → (mids ≡ [] → ⊥) ⊎ (any_request rs ≡ true)) → (mids ≡ [] → ⊥) ⊎ (any_request (r ∷ rs) ≡ true)
      by true b c k later = inl (among_some x.1.state.mid mids b)
      by false b true k later = inr (ap (λ a. a || any_request rs) (asks true k))
      by false b false k later =
          let none = none_asked x.1.state.requests.keyframe x.1.state.requests.bitrate k in
          let unreported : 0 < front_count false x.1.state + fronts_count mids xs = subst (λ a. 0 < front_count a x.1.state + fronts_count mids xs) b some in
          let rest : 0 < fronts_count mids xs = omega arith in
          elim (later rest) [
            | inl e ↦ inl e
            | inr e ↦ inr (ap (λ a. a || any_request rs) (asks false k) ∙ e)
          ]

module _ {W : Type 0} (remembers : W → Heard → Type 0) (tick : Tick) where
  -- what a stream asked was told, and it reported
  pub told_step : (x new : RxView W) (r : RxRecord) → new ≡ on_view with_told x → StandsFor remembers x r → StandsFor remembers new (on_record with_told r)
  told_step x new r is h = subst (λ v. StandsFor remembers v (on_record with_told r)) (sym is) (state_step remembers with_told x r h)

  pub reported_step : (x : RxView W) (r : RxRecord) (reports : Bool) → reports ≡ true → StandsFor remembers x (reported tick.now (on_record with_told r))
      → StandsFor remembers x (after_front tick reports r)
  reported_step x r reports is h = subst (λ b. StandsFor remembers x (after_front tick b r)) (sym is) h

  -- and then asked for packets or did not
  pub asked_step : (x : RxView W) (r : RxRecord) → tick.is_round ≡ true → StandsFor remembers x (after_round tick.now r) → StandsFor remembers x (after_asking tick r)
  asked_step x r is h = subst (λ b. StandsFor remembers x (if b then after_round tick.now r else r)) (sym is) h

  pub unasked_step : (x : RxView W) (r : RxRecord) → tick.is_round ≡ false → StandsFor remembers x r → StandsFor remembers x (after_asking tick r)
  unasked_step x r is h = subst (λ b. StandsFor remembers x (if b then after_round tick.now r else r)) (sym is) h

-- the items that all say
module _ {W : Type 0} (remembers : W → Heard → Type 0) (tick : Tick) (mids : List (List ℕ)) where
  abbrev front_of : RxRecord → List Rtcp
  front_of r = front_items tick (is_among r.state.mid mids) r

  abbrev said_of : RxRecord → List Rtcp
  said_of r = rx_items tick (is_among r.state.mid mids) (0, r)

  same_mid : (x : RxView W) (r : RxRecord) (reports : Bool) → StandsFor remembers x r → reports ≡ is_among x.state.mid mids → reports ≡ is_among r.state.mid mids
  same_mid x r reports k which = which ∙ ap (λ (s : RxState). is_among s.mid mids) k.state

  -- what one more stream says before it asks for packets is made
  pub made_more : (xs : List (ℕ × RxView W)) (rs : List (ℕ × RxRecord)) (i : ℕ) (x : RxView W) (reports : Bool) (made after : List Rtcp)
      → Along (StandsFor remembers) xs rs → slice_get (values_of xs) i ≡ Some x → reports ≡ is_among x.state.mid mids
      → ((r : RxRecord) → StandsFor remembers x r → after ≡ made ++ front_items tick reports r)
      → made ≡ fronts_with tick mids (take i rs) → after ≡ fronts_with tick mids (take (i + 1) rs)
  made_more xs rs i x reports made after h at which new is =
      let y = value_along (StandsFor remembers) xs rs i x h at in
      new y.0 y.2
      ∙ (λ j. is j ++ front_items tick (same_mid x y.0 reports y.2 which j) y.0)
      ∙ front_more front_of rs i y.0 y.1

  -- one more stream says what it says
  pub says_more : (xs : List (ℕ × RxView W)) (rs : List (ℕ × RxRecord)) (i : ℕ) (x new : RxView W) (reports : Bool) (before sofar after rest left : List Rtcp)
      → Along (StandsFor remembers) xs (after_with tick mids (take i rs) ++ drop i rs) → slice_get (values_of xs) i ≡ Some x → reports ≡ is_among x.state.mid mids
      → ((r : RxRecord) → StandsFor remembers x r → StandsFor remembers new (rx_after tick reports r))
      → ((key : ℕ) (r : RxRecord) → StandsFor remembers x r
      → after ≡ sofar ++ (take (front_count reports x.state) rest ++ (if tick.is_round then nack_of tick.sender_ssrc tick.now (key, after_front tick reports r) else [])))
      → left ≡ drop (front_count reports x.state) rest
      → sofar ≡ before ++ items_with tick mids (take i rs) → rest ≡ fronts_with tick mids (drop i rs)
      → Along (StandsFor remembers) (set_value_at xs i new) (after_with tick mids (take (i + 1) rs) ++ drop (i + 1) rs)
      × (after ≡ before ++ items_with tick mids (take (i + 1) rs)) × (left ≡ fronts_with tick mids (drop (i + 1) rs))
  says_more xs rs i x new reports before sofar after rest left h at which changed said gone is made =
      let y = value_along (StandsFor remembers) xs (after_with tick mids (take i rs) ++ drop i rs) i x h at in
      let there = not_yet rs i y.0 y.1 in
      let same = same_mid x y.0 reports y.2 which in
      let count : length (front_of y.0) ≡ front_count reports x.state =
      length_front tick (is_among y.0.state.mid mids) y.0 ∙ (λ j. front_count (sym same j) (sym y.2.state j)) in
      let split : rest ≡ front_of y.0 ++ fronts_with tick mids (drop (i + 1) rs) = made ∙ rest_less front_of rs i y.0 there in
      let first : take (front_count reports x.state) rest ≡ front_of y.0 =
      ap (take (front_count reports x.state)) split ∙ take_at (front_of y.0) (fronts_with tick mids (drop (i + 1) rs)) (front_count reports x.state) count in (
        each_along (StandsFor remembers) xs rs i x new (λ r. rx_after tick (is_among r.state.mid mids) r) h at
            (λ r k. subst (λ b. StandsFor remembers new (rx_after tick b r)) (same_mid x r reports k which) (changed r k)),
        said 0 y.0 y.2
            ∙ (λ j. is j ++ (first j ++ (if tick.is_round then nack_of tick.sender_ssrc tick.now (0, after_front tick (same j) y.0) else [])))
            ∙ append_assoc before (items_with tick mids (take i rs)) (said_of y.0)
            ∙ ap (λ l. before ++ l) (front_more said_of rs i y.0 there),
        gone
            ∙ ap (drop (front_count reports x.state)) split
            ∙ drop_at (front_of y.0) (fronts_with tick mids (drop (i + 1) rs)) (front_count reports x.state) count,
      )
    where
      not_yet : (rs : List (ℕ × RxRecord)) (i : ℕ) (r : RxRecord) → slice_get (values_of (after_with tick mids (take i rs) ++ drop i rs)) i ≡ Some r → slice_get (values_of rs) i ≡ Some r
      not_yet [] zero r at = at
      not_yet [] (suc i) r at = at
      not_yet (e ∷ es) zero r at = at
      not_yet (e ∷ es) (suc i) r at = not_yet es i r at

-- one stream has room for what it says, and so have those after it
pub room_for_one : (round : Bool) (sofar count left rest streams i capacity : ℕ) → i < streams → rest ≡ count + left
    → sofar + (rest + (if round then streams - i else 0)) ≤ capacity → sofar + count + (if round then 1 else 0) ≤ capacity
room_for_one true sofar count left rest streams i capacity within is room = omega arith
room_for_one false sofar count left rest streams i capacity within is room = omega arith

pub room_for_rest : (round : Bool) (sofar count left rest streams i after : ℕ) → i < streams → rest ≡ count + left → after ≤ sofar + count + (if round then 1 else 0)
    → after + (left + (if round then streams - (i + 1) else 0)) ≤ sofar + (rest + (if round then streams - i else 0))
room_for_rest true sofar count left rest streams i after within is more = omega arith
room_for_rest false sofar count left rest streams i after within is more = omega arith

-- at the end all is made
pub made_all : (tick : Tick) (mids : List (List ℕ)) (rs : List (ℕ × RxRecord)) (i : ℕ) → length rs ≤ i → fronts_with tick mids (take i rs) ≡ fronts_with tick mids rs
made_all tick mids rs i long = ap (fronts_with tick mids) (take_all i rs long)

-- for what a tick wants memory
pub room_cause : (made asking behind : ℕ) (round : Bool) → (round ≡ false → asking ≡ 0) → 0 < made + asking + behind → (0 < behind) ⊎ ((round ≡ true) ⊎ (0 < made))
room_cause made asking behind true none some = inr (inl refl)
room_cause made asking zero false none some = let unasked = none refl in inr (inr (omega arith))
room_cause made asking (suc n) false none some = inl (omega arith)
