-- The feedback of a tick leaves first, in compounds; then packets leave.
use Rattle.std.proofs.Common.{◌≡◌, inl, inr, ◌⊎◌, ℕ, zero, suc, ◌+◌, ◌≤◌, ◌<◌, ◌^◌, Bool, true, false, List, [], ◌∷◌, ◌++◌, take, drop, Option, Some, None, refl, sym, ap, ◌∙◌, subst, arith, append_assoc}
use Rattle.std.specs.Prelude.{◌&&◌, ◌||◌, ◌==◌, if◌then◌else◌}
use Rattle.std.specs.List.{AllByRecursion, flat_map}
use Rattle.std.proofs.lemmas.Bool.{eqb-true, eqb-false, false_from_ne_true}
use Rattle.std.proofs.lemmas.List.{append-nil, map-append}
use Rattle.std.proofs.lemmas.Option.{same_Some, none-some}
use Rattle.rtp_base.specs.declared.kind.Kind.TheVariants.{Rtp}
use Rattle.rtp_wire.specs.declared.extension.ExtensionMap.{ExtensionMap}
use Rattle.rtcp_wire.specs.declared.packet.Rtcp.{Rtcp}
use Rattle.rtcp_wire.specs.declared.rtcp_fb.RtcpFb.{RtcpFb}
use Rattle.rtcp_wire.specs.Laws.{ItemsReadBack}
use Rattle.srtp_core.specs.Cipher.{CipherMeaning}
use Rattle.srtp_core.specs.Contexts.{SrtpState}
use Rattle.srtp_core.specs.declared.counter.Counter.TheVariants as srtcp
use Rattle.stream_core.specs.declared.stream_tx.PacketReceipt.{PacketReceipt}
use Rattle.session_core.specs.declared.datagram.Datagram.{Datagram}
use Rattle.session_core.specs.declared.error.RtcError.{RtcError}
use Rattle.session_core.specs.declared.error.RtcError.TheVariants.{Memory, KeyExhausted, RepairsExhausted}
use Rattle.session_core.specs.Draining.{PacketFails, stream_stays, packet_lost, used_up, after_pass, PollFails, packet as packet_fails, key_used_up, compound_kept, compound_lost, stopped_record, IsDrainCut, at_poll, between_polls}
use Rattle.session_core.specs.Feedback.{leaving, compound_of, items_after, sealed_compound, due_of, some_due, is_used_up, exhausts}
use Rattle.session_core.specs.Sending.{sealed_as, sealed_by, after_streams, NextPacket, none_due, given, passed, NextDatagram, silent, packet as leaves, compound, DrainsTo, start, more, Drains}
use Rattle.session_core.specs.SessionRecord.{SessionState, SessionRecord}
use Rattle.run_model.specs.Asking.{item_in, items_in}
use Rattle.run_model.specs.Events.{Event, sealed_items, Types}
use Rattle.run_model.specs.Seals.{Sealing}
use Rattle.run_model.specs.Tables.{Table, ServesAll, reports, IsUsedUpIn}
use Rattle.run_model.specs.Whole.{index_of, indices, Counts}
use Rattle.session_turns.specs.Laws.{IsCutFor}
use Rattle.session_turns.specs.Reading.{event_as, event_of, events_of}
use Rattle.session_turns.proofs.Lists.{flat_map_append, all_append}
use Rattle.session_turns.proofs.Items.{IsRead, told_of, reads_back, all_take, all_drop}

-- packets leave no feedback behind, and are RTP

abbrev pub IsRtp : Datagram → Type 0
IsRtp d = d.kind ≡ Rtp

packet_calm : {now : ℕ} {r after : SessionRecord} {o : Option PacketReceipt} → NextPacket now r after o → after.state.feedback ≡ r.state.feedback
packet_calm (none_due r e) = refl
packet_calm (given r place s p e gives) = refl
packet_calm (passed r after place s o e gives rest) = packet_calm rest

sealed_rtp_kind : (cipher : CipherMeaning) (k : Option SrtpState) (o : Option PacketReceipt) (d : Datagram) → sealed_by cipher k o ≡ Some d → IsRtp d
sealed_rtp_kind cipher None o d e = absurd (none-some d e)
sealed_rtp_kind cipher (Some state) None d e = absurd (none-some d e)
sealed_rtp_kind cipher (Some state) (Some p) d e = ap (λ (x : Datagram). x.kind) (sym (same_Some (sealed_as cipher state p) d e))

-- events of RTP datagrams tell no items
rtp_items : (exts : ExtensionMap) (d : Datagram) → IsRtp d → item_in (event_of exts d) ≡ []
rtp_items exts d e = λ i. item_in (event_as exts (e i) d)

rtp_index : (exts : ExtensionMap) (d : Datagram) → IsRtp d → index_of (event_of exts d) ≡ []
rtp_index exts d e = λ i. index_of (event_as exts (e i) d)

pub no_items : (exts : ExtensionMap) (ds : List Datagram) → AllByRecursion IsRtp ds → items_in (events_of exts ds) ≡ []
no_items exts [] h = refl
no_items exts (d ∷ ds) h = λ i. rtp_items exts d h.0 i ++ no_items exts ds h.1 i

pub no_indices : (exts : ExtensionMap) (ds : List Datagram) → AllByRecursion IsRtp ds → indices (events_of exts ds) ≡ []
no_indices exts [] h = refl
no_indices exts (d ∷ ds) h = λ i. rtp_index exts d h.0 i ++ no_indices exts ds h.1 i

-- numbers that count up further
counts_more : (k n : ℕ) (is : List ℕ) → Counts k is n → Counts k (is ++ n ∷ []) (n + 1)
counts_more k n [] h = (sym h, ap (λ (m : ℕ). m + 1) h)
counts_more k n (i ∷ is) h = (h.0, counts_more (k + 1) n is h.1)

flat_take : (n : ℕ) (xs : List Rtcp) → flat_map told_of (take n xs) ++ flat_map told_of (drop n xs) ≡ flat_map told_of xs
flat_take n xs = sym (flat_map_append told_of (take n xs) (drop n xs)) ∙ ap (flat_map told_of) (take_drop n xs) where
  take_drop : (n : ℕ) (xs : List Rtcp) → take n xs ++ drop n xs ≡ xs
  take_drop zero xs = refl
  take_drop (suc n) [] = refl
  take_drop (suc n) (x ∷ xs) = ap (λ (l : List Rtcp). x ∷ l) (take_drop n xs)

-- an error is the cause of a cut, where of an SSRC that it names a repair is due that has no number
abbrev pub CausesIn : RtcError → ℕ → Type 0
CausesIn error next = (streams : Table) → ((ssrc : ℕ) → error ≡ RepairsExhausted ssrc → IsUsedUpIn ssrc streams) → IsCutFor error streams next

packet_cause : (now : ℕ) (r after : SessionRecord) (error : RtcError) (next : ℕ) → PacketFails now r after error → CausesIn error next
packet_cause now _ _ _ next (stream_stays r place s due stays) = λ streams up. tt
packet_cause now _ _ _ next (packet_lost r place s p due gives) = λ streams up. tt
packet_cause now _ _ _ next (used_up r place ssrc due at) = λ streams up. up ssrc refl
packet_cause now _ _ _ next (after_pass r after place s error due gives rest) = packet_cause now (after_streams r s None) after error next rest

module _ (cipher : CipherMeaning) (time : ℕ) (later : 0 < time) where
  not_zero : (time == 0) ≡ false
  not_zero = false_from_ne_true _ (λ e. let is = eqb-true time 0 e in absurd (omega arith))

  due_is : (s : SessionState) → due_of time s ≡ s.feedback
  due_is s = λ i. if not_zero i then [] else s.feedback

  -- a poll of a session in which no feedback waits
  record IsCalm (after : SessionRecord) (o : Option Datagram) : Type 0 where
    quiet : after.state.feedback ≡ []
    kind : (d : Datagram) → o ≡ Some d → IsRtp d

  calm : (r after : SessionRecord) (o : Option Datagram) → r.state.feedback ≡ [] → NextDatagram cipher time r after o → IsCalm after o
  calm r _ _ none (silent is due) = record { quiet = none; kind = λ d e. absurd (none-some d e) }
  calm r _ _ none (leaves after o spoken due next) = record { quiet = packet_calm next ∙ none; kind = λ d e. sealed_rtp_kind cipher r.state.sealing o d e }
  calm r _ _ none (compound some fresh) = let not : true ≡ false = sym some ∙ ap some_due (due_is r.state ∙ none) in absurd cc

  module _ (law : ItemsReadBack) (r : SessionRecord) (own : SrtpState) (first : own.srtcp_index ≤ 2 ^ 31) (keyed : r.state.sealing ≡ Some own) (exts : ExtensionMap)
      (are_read : AllByRecursion IsRead r.state.feedback) where
    -- the keys at an index, and the session with these items under it
    abbrev pub keys_at : ℕ → SrtpState
    keys_at i = record own { srtcp_index = i }

    abbrev pub left_at : ℕ → List Rtcp → SessionRecord
    left_at i items = record r { state = record r.state { feedback = items; sealing = Some (keys_at i) } }

    abbrev compound_at : ℕ → List Rtcp → Datagram
    compound_at i items = sealed_compound cipher (compound_of r.state.target items) (keys_at i)

    -- a poll gave a compound
    record GaveCompound (i : ℕ) (items : List Rtcp) (after : SessionRecord) (o : Option Datagram) : Type 0 where
      less : i < 2 ^ 31
      is : o ≡ Some (compound_at i items)
      leaves : after ≡ left_at (i + 1) (items_after r.state.target items)

    next_is : (i : ℕ) (items : List Rtcp) (after : SessionRecord) (o : Option Datagram) → i ≤ 2 ^ 31 → NextDatagram cipher time (left_at i items) after o
        → GaveCompound i items after o ⊎ (items ≡ [])
    next_is i items _ _ most (silent is due) = let not : true ≡ false = sym is ∙ (λ j. not_zero j || false) in absurd cc
    next_is i items _ _ most (leaves after o spoken due next) = inr (sym (due_is (left_at i items).state) ∙ due)
    next_is i items _ _ most (compound some fresh) =
        let free : (i == 2 ^ 31) ≡ false = sym (λ j. some j && (i == 2 ^ 31)) ∙ fresh in
        let apart = eqb-false i (2 ^ 31) free in
        inl (record { less = grind (arith, apart, most); is = refl; leaves = refl })

    -- the compounds that left so far
    pub record Reports (b : SessionRecord) (ds : List Datagram) : Type 0 where
      pub items : List Rtcp
      pub next : ℕ
      pub is : b ≡ left_at next items
      pub read : AllByRecursion IsRead items
      pub bounded : next ≤ 2 ^ 31
      pub counts : Counts own.srtcp_index (indices (events_of exts ds)) next
      pub told : items_in (events_of exts ds) ++ flat_map told_of items ≡ flat_map told_of r.state.feedback
      pub serves : (T : Types) (seal : Sealing) (now : ℕ) (xs ys : Table) (events : List Event) → ServesAll T seal now xs ys events → ServesAll T seal now xs ys (events_of exts ds ++ events)

    begun : Reports r []
    begun = record {
      items = r.state.feedback;
      next = own.srtcp_index;
      is = λ i. record r { state = record r.state { sealing = keyed i } };
      read = are_read;
      bounded = first;
      counts = refl;
      told = refl;
      serves = λ T seal now xs ys events d. d;
    }

    one_more : (b after : SessionRecord) (ds : List Datagram) (d : Datagram) → (h : Reports b ds) → GaveCompound h.next h.items after (Some d) → Reports after (ds ++ d ∷ [])
    one_more b after ds d h g =
        let n = leaving r.state.target h.items in
        let is : d ≡ compound_at h.next h.items = same_Some d (compound_at h.next h.items) g.is in
        let event : event_of exts d ≡ sealed_items h.next (flat_map told_of (take n h.items)) =
        ap (event_of exts) is ∙ ap (sealed_items h.next) (reads_back law (take n h.items) (all_take IsRead n h.items h.read)) in
        let events : events_of exts (ds ++ d ∷ []) ≡ events_of exts ds ++ sealed_items h.next (flat_map told_of (take n h.items)) ∷ [] =
        map-append (event_of exts) ds (d ∷ []) ∙ ap (λ (e : Event). events_of exts ds ++ e ∷ []) event in
        let last : Event = sealed_items h.next (flat_map told_of (take n h.items)) in
        let less = g.less in
        record {
          items = drop n h.items;
          next = h.next + 1;
          is = g.leaves;
          read = all_drop IsRead n h.items h.read;
          bounded = omega arith;
          counts =
              subst (λ (l : List ℕ). Counts own.srtcp_index l (h.next + 1)) (sym (ap indices events ∙ flat_map_append index_of (events_of exts ds) (last ∷ [])))
              (counts_more own.srtcp_index h.next (indices (events_of exts ds)) h.counts);
          told =
              ap (λ (l : List Event). items_in l ++ flat_map told_of (drop n h.items)) events
              ∙ ap (λ (l : List RtcpFb). l ++ flat_map told_of (drop n h.items)) (flat_map_append item_in (events_of exts ds) (last ∷ []))
              ∙ ap (λ (l : List RtcpFb). (items_in (events_of exts ds) ++ l) ++ flat_map told_of (drop n h.items)) (append-nil (flat_map told_of (take n h.items)))
              ∙ append_assoc (items_in (events_of exts ds)) (flat_map told_of (take n h.items)) (flat_map told_of (drop n h.items))
              ∙ ap (λ (l : List RtcpFb). items_in (events_of exts ds) ++ l) (flat_take n h.items)
              ∙ h.told;
          serves = λ T seal now xs ys more_events d.
              subst (λ (l : List Event). ServesAll T seal now xs ys (l ++ more_events)) (sym events)
              (subst (λ (l : List Event). ServesAll T seal now xs ys l) (sym (append_assoc (events_of exts ds) (last ∷ []) more_events))
              (h.serves T seal now xs ys (last ∷ more_events) (reports h.next (flat_map told_of (take n h.items)) d)));
        }

    -- and packets after them
    record Packets (b : SessionRecord) (ds : List Datagram) : Type 0 where
      front : List Datagram
      rest : List Datagram
      between : SessionRecord
      all : ds ≡ front ++ rest
      reported : Reports between front
      none : reported.items ≡ []
      sent : DrainsTo cipher time between b rest
      quiet : b.state.feedback ≡ []
      rtp : AllByRecursion IsRtp rest

    quiet_left : {b : SessionRecord} {ds : List Datagram} → (h : Reports b ds) → h.items ≡ [] → b.state.feedback ≡ []
    quiet_left h none = ap (λ (x : SessionRecord). x.state.feedback) h.is ∙ none

    poll_reported : (b after : SessionRecord) (ds : List Datagram) (o : Option Datagram) → (h : Reports b ds) → NextDatagram cipher time b after o → GaveCompound h.next h.items after o ⊎ (h.items ≡ [])
    poll_reported b after ds o h next = next_is h.next h.items after o h.bounded (subst (λ (x : SessionRecord). NextDatagram cipher time x after o) h.is next)

    sent_so_far : {b : SessionRecord} {ds : List Datagram} → DrainsTo cipher time r b ds → Reports b ds ⊎ Packets b ds
    sent_so_far start = inl begun
    sent_so_far (more between after ds d before next) =
        elim (sent_so_far before) [
          | inl h ↦
              elim (poll_reported between after ds (Some d) h next) [
                | inl g ↦ inl (one_more between after ds d h g)
                | inr none ↦
                    let c = calm between after (Some d) (quiet_left h none) next in
                    inr (record {
                      front = ds;
                      rest = d ∷ [];
                      between = between;
                      all = refl;
                      reported = h;
                      none = none;
                      sent = more between after [] d start next;
                      quiet = c.quiet;
                      rtp = (c.kind d refl, tt);
                    })
              ]
          | inr p ↦
              let c = calm between after (Some d) p.quiet next in
              inr (record {
                front = p.front;
                rest = p.rest ++ d ∷ [];
                between = p.between;
                all = ap (λ (l : List Datagram). l ++ d ∷ []) p.all ∙ append_assoc p.front p.rest (d ∷ []);
                reported = p.reported;
                none = p.none;
                sent = more between after p.rest d p.sent next;
                quiet = c.quiet;
                rtp = all_append IsRtp p.rest (d ∷ []) p.rtp (c.kind d refl, tt);
              })
        ]

    -- a whole drain: compounds that hold all items, and then packets
    pub record Splits (after : SessionRecord) (all : List Datagram) : Type 0 where
      pub front : List Datagram
      pub rest : List Datagram
      pub next : ℕ
      pub is : all ≡ front ++ rest
      pub bounded : next ≤ 2 ^ 31
      pub counts : Counts own.srtcp_index (indices (events_of exts front)) next
      pub told : items_in (events_of exts front) ≡ flat_map told_of r.state.feedback
      pub serves : (T : Types) (seal : Sealing) (now : ℕ) (xs ys : Table) (events : List Event) → ServesAll T seal now xs ys events → ServesAll T seal now xs ys (events_of exts front ++ events)
      pub packets : Drains cipher time (left_at next []) after rest
      pub rtp : AllByRecursion IsRtp rest

    split_at : (between after : SessionRecord) (all front rest : List Datagram) → all ≡ front ++ rest → (h : Reports between front) → h.items ≡ [] → Drains cipher time between after rest
        → AllByRecursion IsRtp rest → Splits after all
    split_at between after all front rest is h none drains rtp = record {
      front = front;
      rest = rest;
      next = h.next;
      is = is;
      bounded = h.bounded;
      counts = h.counts;
      told = sym (append-nil (items_in (events_of exts front))) ∙ sym (ap (λ (l : List Rtcp). items_in (events_of exts front) ++ flat_map told_of l) none) ∙ h.told;
      serves = h.serves;
      packets = subst (λ (x : SessionRecord). Drains cipher time x after rest) (h.is ∙ ap (left_at h.next) none) drains;
      rtp = rtp;
    }

    pub splits : (after : SessionRecord) (all : List Datagram) → Drains cipher time r after all → Splits after all
    splits after all drains =
        let last : SessionRecord = drains.last in
        elim (sent_so_far drains.sent) [
          | inl h ↦
              elim (poll_reported last after all None h drains.ended) [
                | inl g ↦ absurd (none-some (compound_at h.next h.items) g.is)
                | inr none ↦ split_at last after all all [] (sym (append-nil all)) h none (record { last = last; sent = start; ended = drains.ended }) tt
              ]
          | inr p ↦ split_at p.between after all p.front p.rest p.all p.reported p.none (record { last = last; sent = p.sent; ended = drains.ended }) p.rtp
        ]

    -- a drain that an error ends: while compounds leave; or once packets may leave, and then the drain of packets is cut off
    pub data CutBy (error : RtcError) (next : ℕ) (rest : List Datagram) : Type 0 where
      in_compounds : rest ≡ [] → ((streams : Table) → IsCutFor error streams next) → CutBy error next rest
      in_packets : (after : SessionRecord) → IsDrainCut cipher time (left_at next []) error after rest → CausesIn error next → CutBy error next rest

    -- compounds, and then packets, as far as they left
    pub record SplitsCut (error : RtcError) (sent : List Datagram) : Type 0 where
      pub front : List Datagram
      pub rest : List Datagram
      pub next : ℕ
      pub is : sent ≡ front ++ rest
      pub counts : Counts own.srtcp_index (indices (events_of exts front)) next
      pub serves : (T : Types) (seal : Sealing) (now : ℕ) (xs ys : Table) (events : List Event) → ServesAll T seal now xs ys events → ServesAll T seal now xs ys (events_of exts front ++ events)
      pub rtp : AllByRecursion IsRtp rest
      pub cut : CutBy error next rest

    cut_front : (between : SessionRecord) (error : RtcError) (sent : List Datagram) → (h : Reports between sent) → CutBy error h.next [] → SplitsCut error sent
    cut_front between error sent h cut =
        record { front = sent; rest = []; next = h.next; is = sym (append-nil sent); counts = h.counts; serves = h.serves; rtp = tt; cut = cut }

    -- packets of a session that is left so
    moved_cut : (between after : SessionRecord) (error : RtcError) (front rest : List Datagram) → (h : Reports between front) → h.items ≡ [] → IsDrainCut cipher time between error after rest
        → CausesIn error h.next → CutBy error h.next rest
    moved_cut between after error front rest h none drain cause =
        in_packets after (subst (λ (x : SessionRecord). IsDrainCut cipher time x error after rest) (h.is ∙ ap (left_at h.next) none) drain) cause

    cut_behind : (b after : SessionRecord) (error : RtcError) (sent : List Datagram) → (p : Packets b sent) → IsDrainCut cipher time p.between error after p.rest
        → CausesIn error p.reported.next → SplitsCut error sent
    cut_behind b after error sent p drain cause = record {
      front = p.front;
      rest = p.rest;
      next = p.reported.next;
      is = p.all;
      counts = p.reported.counts;
      serves = p.reported.serves;
      rtp = p.rtp;
      cut = moved_cut p.between after error p.front p.rest p.reported p.none drain cause;
    }

    last_used : (b : Bool) (n : ℕ) → (b && (n == 2 ^ 31)) ≡ true → n ≡ 2 ^ 31
    last_used true n e = eqb-true n (2 ^ 31) e
    last_used false n e = absurd cc

    -- a poll fails while feedback may wait
    fails_early : (between after : SessionRecord) (error : RtcError) (sent : List Datagram) → Reports between sent → PollFails time between after error → SplitsCut error sent
    fails_early between _ _ sent h (packet_fails after error spoken due fails) =
        let none : h.items ≡ [] = sym (due_is (left_at h.next h.items).state) ∙ ap (λ (x : SessionRecord). due_of time x.state) (sym h.is) ∙ due in
        cut_front between error sent h
        (moved_cut between (stopped_record after) error sent [] h none (at_poll between after error [] start (packet_fails after error spoken due fails)) (packet_cause time between after error h.next fails))
    fails_early between _ _ sent h (key_used_up full) =
        let is : exhausts time (left_at h.next h.items).state ≡ true = ap (λ (x : SessionRecord). exhausts time x.state) (sym h.is) ∙ full in
        cut_front between (KeyExhausted srtcp.Rtcp) sent h (in_compounds refl (λ streams. last_used (some_due (due_of time (left_at h.next h.items).state)) h.next is))
    fails_early between _ _ sent h (compound_kept some fresh) = cut_front between Memory sent h (in_compounds refl (λ streams. tt))
    fails_early between _ _ sent h (compound_lost some fresh) = cut_front between Memory sent h (in_compounds refl (λ streams. tt))

    -- and where none waits
    fail_cause : (between after : SessionRecord) (error : RtcError) (next : ℕ) → between.state.feedback ≡ [] → PollFails time between after error → CausesIn error next
    fail_cause between _ _ next none (packet_fails after error spoken due fails) = packet_cause time between after error next fails
    fail_cause between _ _ next none (key_used_up full) =
        let wrong : false ≡ true = sym (ap (λ (xs : List Rtcp). some_due xs && is_used_up between.state.sealing) (due_is between.state ∙ none)) ∙ full in
        absurd cc
    fail_cause between _ _ next none (compound_kept some fresh) = λ streams up. tt
    fail_cause between _ _ next none (compound_lost some fresh) = λ streams up. tt

    pub splits_cut : (error : RtcError) (after : SessionRecord) (sent : List Datagram) → IsDrainCut cipher time r error after sent → SplitsCut error sent
    splits_cut _ _ _ (at_poll between after error sent drains fails) =
        elim (sent_so_far drains) [
          | inl h ↦ fails_early between after error sent h fails
          | inr p ↦ cut_behind between (stopped_record after) error sent p (at_poll between after error p.rest p.sent fails) (fail_cause between after error p.reported.next p.quiet fails)
        ]
    splits_cut _ _ _ (between_polls between sent drains) =
        elim (sent_so_far drains) [
          | inl h ↦ cut_front between Memory sent h (in_compounds refl (λ streams. tt))
          | inr p ↦ cut_behind between (stopped_record between) Memory sent p (between_polls between p.rest p.sent) (λ streams up. tt)
        ]
