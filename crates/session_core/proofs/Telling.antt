-- What a session tells, event by event.
use Rattle.std.proofs.Common.{◌≡◌, ℕ, zero, suc, Bool, true, false, List, [], ◌∷◌, ◌++◌, Option, Some, None, slice_get, refl, sym, ap, subst, ◌∙◌}
use Rattle.std.proofs.lemmas.List.{append_assoc}
use Rattle.std.specs.Prelude.{◌||◌, is_none, is_some, if◌then◌else◌, map, option_and_then}
use Rattle.std.specs.Map.{values_of}
use Rattle.std.specs.Option.{option_map, option_map_or, option_to_list}
use Rattle.rtcp_wire.specs.declared.feedback.AppSpecificFeedback.{AppSpecificFeedback}
use Rattle.srtp_core.specs.Contexts.{SrtpState}
use Rattle.stream_core.specs.declared.packet.RtpPacket.{RtpPacket}
use Rattle.stream_core.specs.declared.stream_paused.StreamPaused.{StreamPaused}
use Rattle.stream_core.specs.Pauses.{pause_of, told_of, told as stream_told, on_record, first_where, is_untold, next_pause, after_pause, pauses}
use Rattle.stream_core.specs.RxRecord.{RxRecord}
use Rattle.stream_core.specs.Tables.{each, change_place}
use Rattle.stream_core.specs.TxRecord.{TxRecord}
use Rattle.session_core.specs.declared.datagram.Event.{Event}
use Rattle.session_core.specs.declared.datagram.Event.TheVariants as event
use Rattle.session_core.specs.SessionRecord.{SessionState, SessionRecord}
use Rattle.session_core.specs.Calls.{lacks_keys, next_of, next_event, after_next, after_event, told, silenced, after_events, Polled}
use Rattle.session_core.specs.News.{NewsRecord, no_news, news_told, next_news, after_news, first_of, rest_of}
use Rattle.session_core.specs.declared.news.KeyframeRequest.{KeyframeRequest}
use Rattle.session_core.specs.declared.news.RembRequest.{RembRequest}
use Rattle.session_core.specs.declared.news.SenderFeedback.{SenderFeedback}

-- the next stream to be told of is the first of all
module _ where
  split : (rs : List (ℕ × RxRecord)) (o : Option ℕ) → first_where is_untold rs ≡ o
      → (p : StreamPaused) → option_and_then (λ (r : RxRecord). told_of r.state) (option_and_then (slice_get (values_of rs)) o) ≡ Some p
      → (pauses rs ≡ p ∷ pauses (option_map_or (change_place (on_record stream_told) rs) o rs))
      × (each (on_record stream_told) (option_map_or (change_place (on_record stream_told) rs) o rs) ≡ each (on_record stream_told) rs)
  split rs None e p h = absurd cc
  split [] (Some i) e p h = absurd cc
  split (x ∷ rs) (Some i) e p h = by (λ j q k. split rs (Some j) q p k) x.1.state.untold refl (first_where is_untold rs) refl e
    where
      by : ((j : ℕ) → first_where is_untold rs ≡ Some j → option_and_then (λ (r : RxRecord). told_of r.state) (slice_get (values_of rs) j) ≡ Some p
          → (pauses rs ≡ p ∷ pauses (change_place (on_record stream_told) rs j)) × (each (on_record stream_told) (change_place (on_record stream_told) rs j) ≡ each (on_record stream_told) rs))
          → (b : Bool) → x.1.state.untold ≡ b → (o : Option ℕ) → first_where is_untold rs ≡ o → (if b then Some zero else option_map suc o) ≡ Some i
          → (pauses (x ∷ rs) ≡ p ∷ pauses (change_place (on_record stream_told) (x ∷ rs) i))
          × (each (on_record stream_told) (change_place (on_record stream_told) (x ∷ rs) i) ≡ each (on_record stream_told) (x ∷ rs))
      by more true is o q s =
          let here : i ≡ zero = cc in
          let this : told_of x.1.state ≡ Some p = ap (λ n. option_and_then (λ (r : RxRecord). told_of r.state) (slice_get (values_of (x ∷ rs)) n)) (sym here) ∙ h in
          let what : pause_of x.1.state ≡ p = some_is (sym (ap (λ b. if b then Some (pause_of x.1.state) else None) is) ∙ this) in
          subst (λ n. (pauses (x ∷ rs) ≡ p ∷ pauses (change_place (on_record stream_told) (x ∷ rs) n))
          × (each (on_record stream_told) (change_place (on_record stream_told) (x ∷ rs) n) ≡ each (on_record stream_told) (x ∷ rs))) (sym here)
          (ap (λ b. if b then pause_of x.1.state ∷ pauses rs else pauses rs) is ∙ ap (λ y. y ∷ pauses rs) what, refl)
        where
          some_is : {X : Type 0} {a b : X} → Some a ≡ Some b → a ≡ b
          some_is h = cc
      by more false is None q s = absurd cc
      by more false is (Some j) q s =
          let there : i ≡ suc j = cc in
          let rest = more j q (ap (λ n. option_and_then (λ (r : RxRecord). told_of r.state) (option_and_then (slice_get (values_of (x ∷ rs))) (Some n))) (sym there) ∙ h) in
          subst (λ n. (pauses (x ∷ rs) ≡ p ∷ pauses (change_place (on_record stream_told) (x ∷ rs) n))
          × (each (on_record stream_told) (change_place (on_record stream_told) (x ∷ rs) n) ≡ each (on_record stream_told) (x ∷ rs))) (sym there) (
            ap (λ b. if b then pause_of x.1.state ∷ pauses rs else pauses rs) is
                ∙ rest.0
                ∙ sym (ap (λ b. p ∷ (if b then pause_of x.1.state ∷ pauses (change_place (on_record stream_told) rs j) else pauses (change_place (on_record stream_told) rs j))) is),
            ap (λ l. (x.0, on_record stream_told x.1) ∷ l) rest.1,
          )

  -- nothing is to be told
  quiet : (rs : List (ℕ × RxRecord)) (o : Option ℕ) → first_where is_untold rs ≡ o → option_and_then (λ (r : RxRecord). told_of r.state) (option_and_then (slice_get (values_of rs)) o) ≡ None
      → (pauses rs ≡ []) × (each (on_record stream_told) rs ≡ rs)
  quiet [] o e h = (refl, refl)
  quiet (x ∷ rs) o e h = by (λ q f k. quiet rs q f k) x.1.state.untold refl (first_where is_untold rs) refl e
    where
      by : ((q : Option ℕ) → first_where is_untold rs ≡ q → option_and_then (λ (r : RxRecord). told_of r.state) (option_and_then (slice_get (values_of rs)) q) ≡ None
          → (pauses rs ≡ []) × (each (on_record stream_told) rs ≡ rs)) → (b : Bool) → x.1.state.untold ≡ b → (q : Option ℕ) → first_where is_untold rs ≡ q → (if b then Some zero else option_map suc q) ≡ o
          → (pauses (x ∷ rs) ≡ []) × (each (on_record stream_told) (x ∷ rs) ≡ x ∷ rs)
      by more true is q f s =
          let this : told_of x.1.state ≡ None = ap (λ n. option_and_then (λ (r : RxRecord). told_of r.state) (option_and_then (slice_get (values_of (x ∷ rs))) n)) s ∙ h in
          absurd (never (sym (ap (λ b. if b then Some (pause_of x.1.state) else None) is) ∙ this))
        where
          never : {X : Type 0} {a : X} → Some a ≡ None → ⊥
          never h = absurd cc
      by more false is None f s =
          let rest = more None f refl in (
            ap (λ b. if b then pause_of x.1.state ∷ pauses rs else pauses rs) is ∙ rest.0,
            λ j. (x.0, record x.1 { state = record x.1.state { untold = (sym is) j } }) ∷ rest.1 j,
          )
      by more false is (Some k) f s =
          let rest = more (Some k) f (ap (λ n. option_and_then (λ (r : RxRecord). told_of r.state) (option_and_then (slice_get (values_of (x ∷ rs))) n)) s ∙ h) in (
            ap (λ b. if b then pause_of x.1.state ∷ pauses rs else pauses rs) is ∙ rest.0,
            λ j. (x.0, record x.1 { state = record x.1.state { untold = (sym is) j } }) ∷ rest.1 j,
          )

  pub pauses_split : (rs : List (ℕ × RxRecord)) (p : StreamPaused) → next_pause rs ≡ Some p
      → (pauses rs ≡ p ∷ pauses (after_pause rs)) × (each (on_record stream_told) (after_pause rs) ≡ each (on_record stream_told) rs)
  pauses_split rs p h = split rs (first_where is_untold rs) refl p h

  pub pauses_quiet : (rs : List (ℕ × RxRecord)) → next_pause rs ≡ None → (pauses rs ≡ []) × (each (on_record stream_told) rs ≡ rs)
  pauses_quiet rs h = quiet rs (first_where is_untold rs) refl h

-- the first of what the peer asked and told stands in front of the rest, or nothing is left
abbrev Splits : NewsRecord → Option Event → NewsRecord → Type 0
Splits n None after = (news_told n ≡ []) × (n ≡ no_news) × (after ≡ no_news)
Splits n (Some e) after = news_told n ≡ e ∷ news_told after

news_splits : (ks : List (ℕ × KeyframeRequest)) (ss : List (ℕ × SenderFeedback)) (rs : List (ℕ × RembRequest))
    → Splits (record { keyframes = ks; senders = ss; rates = rs }) (first_of ks ss rs) (rest_of ks ss rs)
news_splits (k ∷ ks) ss rs = refl
news_splits [] (s ∷ ss) rs = refl
news_splits [] [] (r ∷ rs) = refl
news_splits [] [] [] = (refl, refl, refl)

abbrev packet_events : Option RtpPacket → List Event
packet_events o = option_to_list (option_map event.RtpPacket o)

abbrev told_with : Option AppSpecificFeedback → List StreamPaused → Option RtpPacket → NewsRecord → List Event
told_with a ps q n = option_to_list (option_map event.AppSpecificFeedback a) ++ (map event.StreamPaused ps ++ (packet_events q ++ news_told n))

abbrev waits : SessionRecord → List Event
waits r = told_with r.state.application (pauses r.rx) r.state.packet r.state.news

abbrev silent : SessionRecord → SessionRecord
silent r = record r { state = silenced r.state; rx = each (on_record stream_told) r.rx }

abbrev pub emptied : SessionRecord → SessionRecord
emptied r = record r { state = record r.state { packet = None } }

abbrev pub newer : SessionRecord → SessionRecord
newer r = record r { state = record r.state { news = after_news r.state.news } }

module _ (r : SessionRecord) where
  told_keyed : lacks_keys r.state ≡ false → told r ≡ waits r
  told_keyed is = ap (λ b. if b then [] else waits r) is

  after_keyed : lacks_keys r.state ≡ false → after_events r ≡ silent r
  after_keyed is = λ j. record r {
    state = if is j then r.state else silenced r.state;
    rx = if is j then r.rx else each (on_record stream_told) r.rx;
  }

module _ (r : SessionRecord) where
  lacking : lacks_keys r.state ≡ true → Polled r None r
  lacking is = (
    ap (λ b. if b then [] else waits r) is,
    sym (λ j. record r {
      state = if is j then r.state else silenced r.state;
      rx = if is j then r.rx else each (on_record stream_told) r.rx;
    }),
  )

  application_next : lacks_keys r.state ≡ false → (f : AppSpecificFeedback) → r.state.application ≡ Some f
      → Polled r (Some (event.AppSpecificFeedback f)) (record r { state = record r.state { application = None } })
  application_next is f a =
      let after : SessionRecord = record r { state = record r.state { application = None } } in (
        told_keyed r is
            ∙ ap (λ o. told_with o (pauses r.rx) r.state.packet r.state.news) a
            ∙ ap (λ l. event.AppSpecificFeedback f ∷ l) (sym (told_keyed after is)),
        after_keyed after is ∙ sym (after_keyed r is),
      )

  pause_next : lacks_keys r.state ≡ false → r.state.application ≡ None → (p : StreamPaused) → next_pause r.rx ≡ Some p
      → Polled r (Some (event.StreamPaused p)) (record r { rx = after_pause r.rx })
  pause_next is a p n =
      let after : SessionRecord = record r { rx = after_pause r.rx } in
      let k = pauses_split r.rx p n in (
        told_keyed r is
            ∙ ap (λ o. told_with o (pauses r.rx) r.state.packet r.state.news) a
            ∙ ap (λ l. told_with None l r.state.packet r.state.news) k.0
            ∙ ap (λ o. event.StreamPaused p ∷ told_with o (pauses (after_pause r.rx)) r.state.packet r.state.news) (sym a)
            ∙ ap (λ l. event.StreamPaused p ∷ l) (sym (told_keyed after is)),
        after_keyed after is
            ∙ ap (λ l. record r { state = silenced r.state; rx = l }) k.1
            ∙ sym (after_keyed r is),
      )

  pub packet_next : lacks_keys r.state ≡ false → r.state.application ≡ None → next_pause r.rx ≡ None → (q : RtpPacket) → r.state.packet ≡ Some q
      → Polled r (Some (event.RtpPacket q)) (emptied r)
  packet_next is a n q w =
      let k = pauses_quiet r.rx n in (
        told_keyed r is
            ∙ ap (λ o. told_with o (pauses r.rx) r.state.packet r.state.news) a
            ∙ ap (λ l. told_with None l r.state.packet r.state.news) k.0
            ∙ ap (λ o. told_with None [] o r.state.news) w
            ∙ ap (λ l. event.RtpPacket q ∷ told_with None l None r.state.news) (sym k.0)
            ∙ ap (λ o. event.RtpPacket q ∷ told_with o (pauses r.rx) None r.state.news) (sym a)
            ∙ ap (λ l. event.RtpPacket q ∷ l) (sym (told_keyed (emptied r) is)),
        after_keyed (emptied r) is ∙ sym (after_keyed r is),
      )

  -- before the news nothing is told
  news_alone : lacks_keys r.state ≡ false → r.state.application ≡ None → next_pause r.rx ≡ None → r.state.packet ≡ None → told r ≡ news_told r.state.news
  news_alone is a n w =
      told_keyed r is
      ∙ ap (λ o. told_with o (pauses r.rx) r.state.packet r.state.news) a
      ∙ ap (λ l. told_with None l r.state.packet r.state.news) (pauses_quiet r.rx n).0
      ∙ ap (λ o. told_with None [] o r.state.news) w

module _ (r : SessionRecord) where
  pub news_next : lacks_keys r.state ≡ false → r.state.application ≡ None → next_pause r.rx ≡ None → r.state.packet ≡ None
      → (o : Option Event) → next_news r.state.news ≡ o → Polled r o (newer r)
  news_next is a n w None e =
      let k = pauses_quiet r.rx n in
      let s : Splits r.state.news None (after_news r.state.news) =
      subst (λ (o : Option Event). Splits r.state.news o (after_news r.state.news)) e (news_splits r.state.news.keyframes r.state.news.senders r.state.news.rates) in (
        news_alone r is a n w ∙ s.0,
        (λ j. record r { state = record r.state { application = a j; packet = w j; news = s.2 j }; rx = sym k.1 j })
            ∙ sym (after_keyed r is),
      )
  news_next is a n w (Some x) e =
      let s : Splits r.state.news (Some x) (after_news r.state.news) =
      subst (λ (o : Option Event). Splits r.state.news o (after_news r.state.news)) e (news_splits r.state.news.keyframes r.state.news.senders r.state.news.rates) in (
        news_alone r is a n w ∙ s ∙ ap (λ l. x ∷ l) (sym (news_alone (newer r) is a n w)),
        after_keyed (newer r) is ∙ sym (after_keyed r is),
      )

  by : (b : Bool) → lacks_keys r.state ≡ b → (a : Option AppSpecificFeedback) → r.state.application ≡ a → (p : Option StreamPaused) → next_pause r.rx ≡ p
      → (q : Option RtpPacket) → r.state.packet ≡ q → Polled r (if b then None else next_of a p q r.state.news) (if b then r else after_next a p q r)
  by true is a x p y q z = lacking r is
  by false is (Some f) x p y q z = application_next r is f x
  by false is None x (Some p) y q z = pause_next r is x p y
  by false is None x None y (Some q) z = packet_next r is x y q z
  by false is None x None y None z = news_next is x y z (next_news r.state.news) refl

  -- a poll gives the first of what is told
  pub polls : Polled r (next_event r) (after_event r)
  polls = by (lacks_keys r.state) refl r.state.application refl (next_pause r.rx) refl r.state.packet refl

-- where nothing came of streams, a packet is told last
module _ (r : SessionRecord) (keyed : lacks_keys r.state ≡ false) (a : r.state.application ≡ None) (n : next_pause r.rx ≡ None) where
  pub packet_last : (q : RtpPacket) → r.state.packet ≡ Some q → next_news r.state.news ≡ None → (told r ≡ event.RtpPacket q ∷ []) × (emptied r ≡ after_events r)
  packet_last q w e =
      let first : Polled r (Some (event.RtpPacket q)) (emptied r) = packet_next r keyed a n q w in
      let s : Splits r.state.news None (after_news r.state.news) =
      subst (λ (o : Option Event). Splits r.state.news o (after_news r.state.news)) e (news_splits r.state.news.keyframes r.state.news.senders r.state.news.rates) in
      let rest : Polled (emptied r) None (newer (emptied r)) = news_next (emptied r) keyed a n refl None e in (
        first.0 ∙ ap (λ l. event.RtpPacket q ∷ l) rest.0,
        (λ j. record r { state = record r.state { packet = None; news = (s.1 ∙ sym s.2) j } }) ∙ rest.1 ∙ first.1,
      )

-- an event that was taken stands in front of what is left
pub taken_one : (sofar now : List Event) (e : Event) (r after : SessionRecord) → told r ≡ e ∷ told after → now ≡ sofar ++ e ∷ [] → sofar ++ told r ≡ now ++ told after
taken_one sofar now e r after first is =
    ap (λ (l : List Event). sofar ++ l) first
    ∙ sym (append_assoc sofar (e ∷ []) (told after))
    ∙ ap (λ (l : List Event). l ++ told after) (sym is)

-- what a poll answers and leaves, by what waits
module _ (r : SessionRecord) (keys : lacks_keys r.state ≡ false) (a : Option AppSpecificFeedback) (p : Option StreamPaused) (q : Option RtpPacket)
    (x : r.state.application ≡ a) (y : next_pause r.rx ≡ p) (z : r.state.packet ≡ q) where
  pub event_is : next_of a p q r.state.news ≡ next_event r
  event_is = sym (λ j. if keys j then None else next_of (x j) (y j) (z j) r.state.news)

  pub after_is : after_next a p q r ≡ after_event r
  after_is = sym (λ j. if keys j then r else after_next (x j) (y j) (z j) r)

-- both contexts are there
pub has_keys : (sealing opening : Option SrtpState) → is_some sealing ≡ true → is_some opening ≡ true → (is_none sealing || is_none opening) ≡ false
has_keys None opening h k = absurd cc
has_keys (Some s) None h k = absurd cc
has_keys (Some s) (Some t) h k = refl

-- the state where the feedback of an application was taken
pub state_heard : (s r : SessionState) (a : Option AppSpecificFeedback) → s ≡ r → a ≡ None → record s { application = a } ≡ record r { application = None }
state_heard s r a same ea = (λ j. record s { application = ea j }) ∙ ap {A = SessionState} {B = SessionState} (λ x. record x { application = None }) same

-- the state where nothing but the streams was touched, and where the packet was taken too
pub state_polled : (s r : SessionState) (t : ℕ) (tx : List (ℕ × TxRecord)) (a : Option AppSpecificFeedback) → s ≡ r → t ≡ s.pause_threshold → tx ≡ s.tx → a ≡ s.application
    → record s { pause_threshold = t; tx = tx; application = a } ≡ r
state_polled s r t tx a same et etx ea = (λ j. record s { pause_threshold = et j; tx = etx j; application = ea j }) ∙ same

pub state_emptied : (s r : SessionState) (t : ℕ) (tx : List (ℕ × TxRecord)) (a : Option AppSpecificFeedback) (q : Option RtpPacket) → s ≡ r → t ≡ s.pause_threshold → tx ≡ s.tx → a ≡ s.application
    → q ≡ None → record s { pause_threshold = t; tx = tx; application = a; packet = q } ≡ record r { packet = None }
state_emptied s r t tx a q same et etx ea eq =
    (λ j. record s { pause_threshold = et j; tx = etx j; application = ea j; packet = eq j }) ∙ ap {A = SessionState} {B = SessionState} (λ x. record x { packet = None }) same

-- the state where the next of what the peer asked and told was taken, behind all else
pub state_newer : (s r : SessionState) (t : ℕ) (tx : List (ℕ × TxRecord)) (a : Option AppSpecificFeedback) (q : Option RtpPacket) (n : NewsRecord) → s ≡ r → t ≡ s.pause_threshold → tx ≡ s.tx
    → a ≡ s.application → q ≡ s.packet → n ≡ after_news s.news → record s { pause_threshold = t; tx = tx; application = a; packet = q; news = n } ≡ record r { news = after_news r.news }
state_newer s r t tx a q n same et etx ea eq en =
    (λ j. record s { pause_threshold = et j; tx = etx j; application = ea j; packet = eq j; news = en j })
    ∙ ap {A = SessionState} {B = SessionState} (λ x. record x { news = after_news x.news }) same
