-- A session that begins: with keys, with media sections, with streams.
use Rattle.std.proofs.Common.{◌≡◌, inl, inr, ℕ, Bool, true, false, not, List, [], ◌∷◌, ◌++◌, map, Option, Some, None, is_some, refl, sym, ap, ◌∙◌, subst, ◌<◌, ◌≤◌, ◌^◌}
use Rattle.std.specs.Prelude.{option_to_list, if◌then◌else◌, is_none, ◌==◌}
use Rattle.std.specs.List.{AllByRecursion, AllZip, flat_map}
use Rattle.std.specs.Map.{keys_of}
use Rattle.std.specs.Option.{option_map}
use Rattle.std.proofs.lemmas.List.{append-nil}
use Rattle.std.proofs.lemmas.List.Concat.{flat_map-append}
use Rattle.std.specs.Cmp.Lexicographic.{pointwise, bytes_decides}
use Rattle.mask_register.specs.MaskRegister.{Remembers}
use Rattle.queue_store.specs.Queue.{StandsFor as Holds}
use Rattle.rtx_core.specs.Resends.{created, recached}
use Rattle.srtp_core.specs.Cipher.{CipherMeaning}
use Rattle.srtp_core.specs.Contexts.{new_state}
use Rattle.stream_core.specs.Repairing.{RepairsRecord, SentPacket}
use Rattle.stream_core.specs.RxRecord.{RxRecord, expected}
use Rattle.mapping_core.specs.Streams.{fresh, is_main, with_stream}
use Rattle.mapping_core.specs.declared.stream.IncomingStream.{IncomingStream}
use Rattle.stream_core.specs.Known.{KnownRecord}
use Rattle.stream_core.specs.StreamsRecord.{StreamsRecord, StandsFor as StreamsStandFor, first_known, with_first, with_original, with_stream_tx, with_stream_rx, StreamsView}
use Rattle.stream_core.specs.Tables.{place_of, with_new, change_at}
use Rattle.stream_core.specs.TxRecord.{TxRecord, declared}
use Rattle.media_play.specs.Ends.{EndSession, SessionStands}
use Rattle.session_core.specs.declared.config.SessionConfig.{SessionConfig}
use Rattle.session_core.specs.Calls.{fresh_session, keyed}
use Rattle.session_core.specs.Sending.{has_mid}
use Rattle.session_core.specs.Types.{types_of as session_types}
use Rattle.session_core.specs.SessionRecord.{MediaRecord, SessionState, SessionRecord, streams_in}
use Rattle.session_turns.specs.Mirrors.{rtx_seen, original_in, original_with, HasOriginal}
use Rattle.media_model.specs.declared.entry.Side.{Side}
use Rattle.media_model.specs.declared.entry.Side.TheVariants.{A, B}
use Rattle.media_model.specs.declared.setup.Stream.{Stream}
use Rattle.media_model.specs.declared.setup.Setup.{Setup}
use Rattle.media_model.specs.Setup.{material_of, local_of, cache_of}
use Rattle.media_model.specs.Sides.{same_side, peer_of}
use Rattle.run_model.specs.Events.{Outgoing}
use Rattle.run_model.specs.Listing.{IsIn}
use Rattle.run_model.specs.Transcripts.{outgoing_as}
use Rattle.run_model.specs.Whole.{incoming_of}
use Rattle.media_laws.specs.Keys.{is_left}
use Rattle.media_laws.specs.Plain.{extensions_of}
use Rattle.media_play.specs.Starting.{intervals_of, ssrcs_in, AreOnce, HasWords, IsRow, rows_of, IsIdle, IsUnheard, kept_for, kept_in, with_streams, StreamsChange, IsSection, Begun, Starts}
use Rattle.media_play.proofs.StartingLists.{all_push, place_left, place_last, zip_push, zip_weaker, zip_keys, any_left, any_last, new_last, place_absent, change_none, change_last, keys_among, mains_among, strange}
use Rattle.mask_register.specs.declared.register.MaskRegister.{MaskRegister}
use Rattle.queue_store.specs.declared.queue.QueueStore.{QueueStore}

-- the sides

other_left : (side : Side) → not (is_left side) ≡ is_left (peer_of side)
other_left A = refl
other_left B = refl

other_side : (a b : Side) → same_side a (peer_of b) ≡ not (same_side a b)
other_side A A = refl
other_side A B = refl
other_side B A = refl
other_side B B = refl

-- a media section has its own mid
pub has_last : (medias : List MediaRecord) (m : MediaRecord) (mid : List ℕ) → m.mid ≡ mid → has_mid mid (medias ++ m ∷ []) ≡ true
has_last medias m mid is = any_last (λ (n : MediaRecord). pointwise ◌==◌ n.mid mid) medias m ((bytes_decides m.mid mid).1 is)

-- the SSRCs of a stream of a setup have 32 bits
pub has_words : (setup : Setup) (s : Stream) → s.ssrc < 2 ^ 32 → ((x : ℕ) → s.rtx ≡ Some x → x < 2 ^ 32) → HasWords (outgoing_as setup s (cache_of s.ssrc setup))
has_words setup s ssrc rtx = record { ssrc = ssrc; rtx = rtx }

abbrev pub EndStreams : Type 0
EndStreams = StreamsView MaskRegister (QueueStore SentPacket)

-- the streams of a session change
pub streams_change : (f : StreamsRecord → StreamsRecord) (v : EndSession) (old new : EndStreams) → old.rx ≡ v.rx → old.tx ≡ v.state.tx → old.threshold ≡ v.state.pause_threshold → old.known ≡ v.known → old.repairs ≡ v.repairs
    → ((r : StreamsRecord) → StreamsStandFor Remembers Holds old r → StreamsStandFor Remembers Holds new (f r))
    → StreamsChange f v (record v { state = record v.state { tx = new.tx; pause_threshold = new.threshold }; rx = new.rx; known = new.known; repairs = new.repairs })
streams_change f v old new rx tx threshold known repairs says s h =
    let after = says (streams_in s) (record {
      threshold = threshold ∙ ap (λ (t : SessionState). t.pause_threshold) h.state;
      rx = rw rx h.rx;
      known = known ∙ h.known;
      tx = tx ∙ ap (λ (t : SessionState). t.tx) h.state;
      repairs = rw repairs h.repairs;
    }) in
    let made = f (streams_in s) in
    record {
      state = ap (λ (l : List (ℕ × TxRecord)). let n : SessionState = record v.state { tx = l; pause_threshold = new.threshold } in n) after.tx
          ∙ ap (λ (at : ℕ). let n : SessionState = record v.state { tx = made.tx; pause_threshold = at } in n) after.threshold
          ∙ ap (λ (t : SessionState). let n : SessionState = record t { tx = made.tx; pause_threshold = made.threshold } in n) h.state;
      rx = after.rx;
      known = after.known;
      probes = h.probes;
      seen = h.seen;
      repairs = after.repairs;
    }

none_seen : (o : Option ℕ) → rtx_seen [] o []
none_seen None = refl
none_seen (Some rtx) = refl

-- a stream that is declared, with its repairs

abbrev first_for : ℕ → ℕ → Option ℕ → List (ℕ × RepairsRecord)
first_for ssrc first None = []
first_for ssrc first (Some rtx) = (ssrc, created first) ∷ []

firsts : (first : ℕ) (o : Option ℕ) → option_map (λ (x : ℕ × ℕ). x.0) (option_map (λ ssrc. (ssrc, first)) o) ≡ o
firsts first None = refl
firsts first (Some rtx) = refl

first_added : (ssrc first : ℕ) (o : Option ℕ) (qs : List (ℕ × RepairsRecord)) → (IsIn ssrc (keys_of qs) → ⊥)
    → with_first ssrc (option_map (λ (x : ℕ × ℕ). x.1) (option_map (λ ssrc. (ssrc, first)) o)) qs ≡ qs ++ first_for ssrc first o
first_added ssrc first None qs none = sym (append-nil qs)
first_added ssrc first (Some rtx) qs none = new_last ssrc (created first) qs none

kept_added : (L : Outgoing) (o : Option ℕ) (qs : List (ℕ × RepairsRecord)) → (IsIn L.ssrc (keys_of qs) → ⊥)
    → change_at L.ssrc (recached L.packets L.age L.cap) (qs ++ first_for L.ssrc L.start o) ≡ qs ++ kept_for L o
kept_added L None qs none = ap (change_at L.ssrc (recached L.packets L.age L.cap)) (append-nil qs) ∙ change_none L.ssrc (recached L.packets L.age L.cap) qs none ∙ sym (append-nil qs)
kept_added L (Some rtx) qs none = change_last L.ssrc (recached L.packets L.age L.cap) (created L.start) qs none

abbrev declared_in : Outgoing → List ℕ → Option (List ℕ) → List (ℕ × RepairsRecord) → StreamsRecord → StreamsRecord
declared_in L mid rid qs r = record r { tx = r.tx ++ (L.ssrc, declared L.ssrc L.rtx mid rid) ∷ []; repairs = r.repairs ++ qs }

tx_added : (L : Outgoing) (mid : List ℕ) (rid : Option (List ℕ)) (r : StreamsRecord) → (IsIn L.ssrc (keys_of r.tx) → ⊥) → (IsIn L.ssrc (keys_of r.repairs) → ⊥)
    → with_stream_tx L.ssrc (option_map (λ ssrc. (ssrc, L.start)) L.rtx) mid rid r ≡ declared_in L mid rid (first_for L.ssrc L.start L.rtx) r
tx_added L mid rid r none_tx none =
    let rtx = option_map (λ (ssrc : ℕ). (ssrc, L.start)) L.rtx in
    let more : StreamsRecord = record r { tx = with_new L.ssrc (declared L.ssrc (option_map (λ x. x.0) rtx) mid rid) r.tx; repairs = with_first L.ssrc (option_map (λ x. x.1) rtx) r.repairs } in
    let tx : more.tx ≡ r.tx ++ (L.ssrc, declared L.ssrc L.rtx mid rid) ∷ [] =
    new_last L.ssrc (declared L.ssrc (option_map (λ x. x.0) rtx) mid rid) r.tx none_tx ∙ ap (λ (o : Option ℕ). r.tx ++ (L.ssrc, declared L.ssrc o mid rid) ∷ []) (firsts L.start L.rtx) in
    let repairs : more.repairs ≡ r.repairs ++ first_for L.ssrc L.start L.rtx = first_added L.ssrc L.start L.rtx r.repairs none in
    ap (λ (b : Bool). if b then r else more) (place_absent L.ssrc r.tx none_tx)
    ∙ (λ i. record r { tx = tx i; repairs = repairs i })

-- a stream that is expected

original_added : (ssrc : ℕ) (o : Option ℕ) (rs : List (ℕ × RxRecord)) (os : List (ℕ × ℕ)) → (IsIn ssrc (keys_of rs) → ⊥) → ((rtx : ℕ) → o ≡ Some rtx → IsIn rtx (keys_of os) → ⊥)
    → with_original ssrc o rs os ≡ os ++ original_with ssrc o
original_added ssrc None rs os none no_rtx = sym (append-nil os)
original_added ssrc (Some rtx) rs os none no_rtx = ap (λ (b : Bool). if b then os else with_new rtx ssrc os) (place_absent ssrc rs none) ∙ new_last rtx ssrc os (no_rtx rtx refl)

not_suppressed : (o : Option ℕ) → is_none o ≡ not (is_some o)
not_suppressed None = refl
not_suppressed (Some rtx) = refl

rtx_own : (L : Outgoing) (rtx : ℕ) (o : Option ℕ) → o ≡ Some rtx → IsIn rtx (option_to_list o)
rtx_own L rtx None e = absurd cc
rtx_own L rtx (Some x) e = inl cc

kept_keys : (L : Outgoing) (k : ℕ) → IsIn k (keys_of (kept_in L)) → IsIn k (ssrcs_in L)
kept_keys L k i = go L.rtx i
  where
    go : (o : Option ℕ) → IsIn k (keys_of (kept_for L o)) → IsIn k (L.ssrc ∷ option_to_list o)
    go None j = absurd j
    go (Some rtx) (inl e) = inl e
    go (Some rtx) (inr j) = absurd j

original_keys : (L : Outgoing) (k : ℕ) → IsIn k (keys_of (original_in (incoming_of L))) → IsIn k (ssrcs_in L)
original_keys L k i = go L.rtx i
  where
    go : (o : Option ℕ) → IsIn k (keys_of (original_with L.ssrc o)) → IsIn k (L.ssrc ∷ option_to_list o)
    go None j = absurd j
    go (Some rtx) (inl e) = inr (inl e)
    go (Some rtx) (inr j) = absurd j

-- what is known of a stream that comes, and of all with one more
abbrev heard_as : Outgoing → List ℕ → Option (List ℕ) → IncomingStream
heard_as L mid rid = first_known L.ssrc L.rtx mid rid (is_none L.rtx)

abbrev known_more : SessionRecord → Outgoing → List ℕ → Option (List ℕ) → KnownRecord
known_more s L mid rid = record { originals = s.known.originals ++ original_with L.ssrc L.rtx; streams = with_stream (heard_as L mid rid) s.known.streams }

grown : (os more : List (ℕ × ℕ)) (streams : List IncomingStream) → AllByRecursion (HasOriginal os) streams → AllByRecursion (HasOriginal (os ++ more)) streams
grown os more [] all = tt
grown os more (s ∷ ss) all = (λ rtx is. place_left rtx os more (all.0 rtx is), grown os more ss all.1)

own_original : (ssrc : ℕ) (os : List (ℕ × ℕ)) (o : Option ℕ) (rtx : ℕ) → o ≡ Some rtx → is_some (place_of rtx (os ++ original_with ssrc o)) ≡ true
own_original ssrc os None rtx is = absurd cc
own_original ssrc os (Some x) rtx is = let same : x ≡ rtx = cc in ap (λ (k : ℕ). is_some (place_of k (os ++ (x, ssrc) ∷ []))) (sym same) ∙ place_last x ssrc os

all_known : (L : Outgoing) (mid : List ℕ) (rid : Option (List ℕ)) (s : SessionRecord) → AllByRecursion (HasOriginal s.known.originals) s.known.streams
    → AllByRecursion (HasOriginal (s.known.originals ++ original_with L.ssrc L.rtx)) (with_stream (heard_as L mid rid) s.known.streams)
all_known L mid rid s all = by (is_main s.known.streams L.ssrc)
  where
    more : List (ℕ × ℕ)
    more = s.known.originals ++ original_with L.ssrc L.rtx

    before : AllByRecursion (HasOriginal more) s.known.streams
    before = grown s.known.originals (original_with L.ssrc L.rtx) s.known.streams all

    by : (b : Bool) → AllByRecursion (HasOriginal more) (if b then s.known.streams else s.known.streams ++ fresh (heard_as L mid rid) ∷ [])
    by true = before
    by false = all_push (HasOriginal more) s.known.streams (fresh (heard_as L mid rid)) before (own_original L.ssrc s.known.originals L.rtx)

originals_of : (Ls : List Outgoing) → flat_map original_in (map incoming_of Ls) ≡ flat_map (λ L. original_in (incoming_of L)) Ls
originals_of [] = refl
originals_of (L ∷ Ls) = ap (λ l. original_in (incoming_of L) ++ l) (originals_of Ls)

module _ (cipher : CipherMeaning) (setup : Setup) (side : Side) where
  -- with keys

  keyed_begins : (config : SessionConfig) → config.mtu.target ≡ setup.mtu.target → 900 ≤ config.mtu.target → config.pause_threshold ≡ setup.pause_threshold → config.intervals ≡ intervals_of setup → config.srtcp_index ≡ (local_of side setup).srtcp_index
      → config.local_ssrc ≡ (local_of side setup).ssrc → config.beginning ≡ setup.beginning → config.exts ≡ extensions_of setup → AllZip IsRow (session_types config.codecs.params) (rows_of setup.types)
      → Begun cipher setup side [] [] (record (fresh_session config) { state = keyed cipher setup.profile (material_of setup) (is_left side) (fresh_session config).state })
  keyed_begins config target wide pauses intervals index ssrc beginning exts types =
      record {
        seals = ap (λ (i : ℕ). Some (new_state cipher setup.profile (material_of setup) (is_left side) i)) index;
        opens = ap (λ (l : Bool). Some (new_state cipher setup.profile (material_of setup) l 0)) (other_left side);
        target = target;
        wide = wide;
        runs = refl;
        feedback = refl;
        released = refl;
        application = refl;
        packet = refl;
        last_round = refl;
        local_ssrc = ssrc;
        beginning = beginning;
        seen = refl;
        types = types;
        exts = exts;
        pauses = pauses;
        intervals = intervals;
        sends = tt;
        repairs = refl;
        takes = tt;
        probes_stand = record { ssrc = refl; roc = refl; suppressed = refl; threshold_is = pauses; pause = refl; numbers = refl; begun = tt; repairs = refl; seen_main = refl; seen_rtx = refl };
        originals = refl;
        sections = tt;
        known = tt;
      }

  pub starts_keyed : (config : SessionConfig) (v new : EndSession) (material : List ℕ) (left : Bool) → config.mtu.target ≡ setup.mtu.target → 900 ≤ config.mtu.target → config.pause_threshold ≡ setup.pause_threshold → config.intervals ≡ intervals_of setup → config.srtcp_index ≡ (local_of side setup).srtcp_index
      → config.local_ssrc ≡ (local_of side setup).ssrc → config.beginning ≡ setup.beginning → config.exts ≡ extensions_of setup → AllZip IsRow (session_types config.codecs.params) (rows_of setup.types)
      → material ≡ material_of setup → left ≡ is_left side → (local_of side setup).srtcp_index ≤ 2 ^ 31 → SessionStands v (fresh_session config)
      → new ≡ record v { state = keyed cipher setup.profile material left v.state } → Starts cipher setup side [] [] new
  starts_keyed config v new material left target wide pauses intervals index ssrc beginning exts types key l bounded h is =
      let to = λ (s : SessionState). keyed cipher setup.profile (material_of setup) (is_left side) s in
      let state : new.state ≡ to (fresh_session config).state =
      ap (λ (w : EndSession). w.state) is
      ∙ ap (λ (m : List ℕ). keyed cipher setup.profile m left v.state) key
      ∙ ap (λ (b : Bool). keyed cipher setup.profile (material_of setup) b v.state) l
      ∙ ap to h.state in
      record {
        session = record (fresh_session config) { state = to (fresh_session config).state };
        bounded = bounded;
        sent_words = tt;
        heard_words = tt;
        stands = record {
          state = state;
          rx = rw is h.rx;
          known = rw is h.known;
          probes = rw is h.probes;
          seen = rw is h.seen;
          repairs = rw is h.repairs;
        };
        begun = keyed_begins config target wide pauses intervals index ssrc beginning exts types;
      }

  module _ (sent received : List Outgoing) where
    -- one media section more

    begun_media : (s : SessionRecord) (m : MediaRecord) → IsSection setup m → Begun cipher setup side sent received s
        → Begun cipher setup side sent received (record s { state = record s.state { medias = s.state.medias ++ m ∷ [] } })
    begun_media s m section b = record {
      seals = b.seals;
      opens = b.opens;
      target = b.target;
      wide = b.wide;
      runs = b.runs;
      feedback = b.feedback;
      released = b.released;
      application = b.application;
      packet = b.packet;
      last_round = b.last_round;
      local_ssrc = b.local_ssrc;
      beginning = b.beginning;
      seen = b.seen;
      types = b.types;
      exts = b.exts;
      pauses = b.pauses;
      intervals = b.intervals;
      sends = zip_weaker (IsIdle s.state.medias) (IsIdle (s.state.medias ++ m ∷ [])) s.state.tx sent
          (λ e L i. record { key = i.key; ssrc = i.ssrc; rtx = i.rtx; mid = any_left (λ (n : MediaRecord). pointwise ◌==◌ n.mid e.1.mid) s.state.medias (m ∷ []) i.mid; queue = i.queue }) b.sends;
      repairs = b.repairs;
      takes = b.takes;
      probes_stand = b.probes_stand;
      originals = b.originals;
      sections = all_push (IsSection setup) s.state.medias m b.sections section;
      known = b.known;
    }

    pub starts_media : (v new : EndSession) (m : MediaRecord) → IsSection setup m → new ≡ record v { state = record v.state { medias = v.state.medias ++ m ∷ [] } }
        → Starts cipher setup side sent received v → Starts cipher setup side sent received new
    starts_media v new m section is h =
        let to = λ (s : SessionState). let n : SessionState = record s { medias = s.medias ++ m ∷ [] } in n in
        record {
          session = record h.session { state = to h.session.state };
          bounded = h.bounded;
          sent_words = h.sent_words;
          heard_words = h.heard_words;
          stands = record {
            state = ap (λ (w : EndSession). w.state) is ∙ ap to h.stands.state;
            rx = rw is h.stands.rx;
            known = rw is h.stands.known;
            probes = rw is h.stands.probes;
            seen = rw is h.stands.seen;
            repairs = rw is h.stands.repairs;
          };
          begun = begun_media h.session m section h.begun;
        }

    -- one stream more

    begun_sends : (s : SessionRecord) (L : Outgoing) (mid : List ℕ) (rid : Option (List ℕ)) → has_mid mid s.state.medias ≡ true → Begun cipher setup side sent received s
        → Begun cipher setup side (sent ++ L ∷ []) received (with_streams (declared_in L mid rid (kept_in L) (streams_in s)) s)
    begun_sends s L mid rid known b = record {
      seals = b.seals;
      opens = b.opens;
      target = b.target;
      wide = b.wide;
      runs = b.runs;
      feedback = b.feedback;
      released = b.released;
      application = b.application;
      packet = b.packet;
      last_round = b.last_round;
      local_ssrc = b.local_ssrc;
      beginning = b.beginning;
      seen = b.seen;
      types = b.types;
      exts = b.exts;
      pauses = b.pauses;
      intervals = b.intervals;
      sends = zip_push (IsIdle s.state.medias) s.state.tx sent (L.ssrc, declared L.ssrc L.rtx mid rid) L b.sends (record { key = refl; ssrc = refl; rtx = refl; mid = known; queue = refl });
      repairs = ap (λ (l : List (ℕ × RepairsRecord)). l ++ kept_in L) b.repairs ∙ ap (λ l. flat_map kept_in sent ++ l) (sym (append-nil (kept_in L))) ∙ sym (flat_map-append kept_in sent (L ∷ []));
      takes = b.takes;
      probes_stand = b.probes_stand;
      originals = b.originals;
      sections = b.sections;
      known = b.known;
    }

    pub starts_sends : (v w z : EndSession) (L : Outgoing) (mid : List ℕ) (rid : Option (List ℕ)) → HasWords L → has_mid mid v.state.medias ≡ true → AreOnce (sent ++ L ∷ [])
        → StreamsChange (with_stream_tx L.ssrc (option_map (λ ssrc. (ssrc, L.start)) L.rtx) mid rid) v w
        → StreamsChange (λ r. record r { repairs = change_at L.ssrc (recached L.packets L.age L.cap) r.repairs }) w z
        → Starts cipher setup side sent received v → Starts cipher setup side (sent ++ L ∷ []) received z
    starts_sends v w z L mid rid words known once first cached h =
        let s = h.session in
        let none_tx : IsIn L.ssrc (keys_of s.state.tx) → ⊥ =
        λ i. strange sent L L.ssrc once (inl refl) (mains_among sent L.ssrc (subst (IsIn L.ssrc) (zip_keys (IsIdle s.state.medias) (λ (M : Outgoing). M.ssrc) (λ e M k. k.key) s.state.tx sent h.begun.sends) i)) in
        let none : IsIn L.ssrc (keys_of s.repairs) → ⊥ =
        λ i. strange sent L L.ssrc once (inl refl) (keys_among kept_in kept_keys sent L.ssrc (subst (λ (l : List (ℕ × RepairsRecord)). IsIn L.ssrc (keys_of l)) h.begun.repairs i)) in
        let between : SessionRecord = with_streams (declared_in L mid rid (first_for L.ssrc L.start L.rtx) (streams_in s)) s in
        let stands : SessionStands w between = subst (λ (r : StreamsRecord). SessionStands w (with_streams r s)) (tx_added L mid rid (streams_in s) none_tx none) (first s h.stands) in
        record {
          session = with_streams (declared_in L mid rid (kept_in L) (streams_in s)) s;
          bounded = h.bounded;
          sent_words = all_push HasWords sent L h.sent_words words;
          heard_words = h.heard_words;
          stands = subst (λ (qs : List (ℕ × RepairsRecord)). let t : SessionRecord = record between { repairs = qs } in SessionStands z t) (kept_added L L.rtx s.repairs none) (cached between stands);
          begun = begun_sends s L mid rid (ap (λ (t : SessionState). has_mid mid t.medias) (sym h.stands.state) ∙ known) h.begun;
        }

    begun_hears : (s : SessionRecord) (L : Outgoing) (mid : List ℕ) (rid : Option (List ℕ)) → Begun cipher setup side sent received s
        → Begun cipher setup side sent (received ++ L ∷ []) (record s {
          rx = s.rx ++ (L.ssrc, expected L.ssrc L.rtx mid rid (is_none L.rtx) s.state.pause_threshold) ∷ [];
          known = known_more s L mid rid;
        })
    begun_hears s L mid rid b = record {
      seals = b.seals;
      opens = b.opens;
      target = b.target;
      wide = b.wide;
      runs = b.runs;
      feedback = b.feedback;
      released = b.released;
      application = b.application;
      packet = b.packet;
      last_round = b.last_round;
      local_ssrc = b.local_ssrc;
      beginning = b.beginning;
      seen = b.seen;
      types = b.types;
      exts = b.exts;
      pauses = b.pauses;
      intervals = b.intervals;
      sends = b.sends;
      repairs = b.repairs;
      takes = zip_push (IsUnheard setup.pause_threshold) s.rx received (L.ssrc, expected L.ssrc L.rtx mid rid (is_none L.rtx) s.state.pause_threshold) L b.takes
          (record {
            key = refl;
            trip_is = refl;
            mirrors = record { ssrc = refl; roc = refl; suppressed = not_suppressed L.rtx; threshold_is = b.pauses; pause = refl; numbers = refl; begun = tt; repairs = refl; seen_main = refl; seen_rtx = none_seen L.rtx };
          });
      probes_stand = b.probes_stand;
      originals =
          ap (λ (l : List (ℕ × ℕ)). l ++ original_with L.ssrc L.rtx) (b.originals ∙ originals_of received)
          ∙ ap (λ l. flat_map (λ M. original_in (incoming_of M)) received ++ l) (sym (append-nil (original_in (incoming_of L))))
          ∙ sym (flat_map-append (λ M. original_in (incoming_of M)) received (L ∷ []))
          ∙ sym (originals_of (received ++ L ∷ []));
      sections = b.sections;
      known = all_known L mid rid s b.known;
    }

    pub starts_hears : (v w : EndSession) (L : Outgoing) (mid : List ℕ) (rid : Option (List ℕ)) → HasWords L → AreOnce (received ++ L ∷ [])
        → StreamsChange (with_stream_rx L.ssrc L.rtx mid rid (is_none L.rtx)) v w
        → Starts cipher setup side sent received v → Starts cipher setup side sent (received ++ L ∷ []) w
    starts_hears v w L mid rid words once says h =
        let s = h.session in
        let none : IsIn L.ssrc (keys_of s.rx) → ⊥ =
        λ i. strange received L L.ssrc once (inl refl) (mains_among received L.ssrc (subst (IsIn L.ssrc) (zip_keys (IsUnheard setup.pause_threshold) (λ (M : Outgoing). M.ssrc) (λ e M k. k.key) s.rx received h.begun.takes) i)) in
        let no_rtx : (rtx : ℕ) → L.rtx ≡ Some rtx → IsIn rtx (keys_of s.known.originals) → ⊥ =
        λ rtx is i. strange received L rtx once (inr (rtx_own L rtx L.rtx is))
        (keys_among (λ M. original_in (incoming_of M)) original_keys received rtx (subst (λ (l : List (ℕ × ℕ)). IsIn rtx (keys_of l)) (h.begun.originals ∙ originals_of received) i)) in
        let x = expected L.ssrc L.rtx mid rid (is_none L.rtx) s.state.pause_threshold in
        let rx : with_new L.ssrc x s.rx ≡ s.rx ++ (L.ssrc, x) ∷ [] = new_last L.ssrc x s.rx none in
        let originals : with_original L.ssrc L.rtx s.rx s.known.originals ≡ s.known.originals ++ original_with L.ssrc L.rtx = original_added L.ssrc L.rtx s.rx s.known.originals none no_rtx in
        let streams = ap (λ b. if b then s.known.streams else with_stream (heard_as L mid rid) s.known.streams) (place_absent L.ssrc s.rx none) in
        let after : SessionRecord = record s { rx = s.rx ++ (L.ssrc, x) ∷ []; known = known_more s L mid rid } in
        let same : with_streams (with_stream_rx L.ssrc L.rtx mid rid (is_none L.rtx) (streams_in s)) s ≡ after = λ i. record s { rx = rx i; known = record { originals = originals i; streams = streams i } } in
        record {
          session = after;
          bounded = h.bounded;
          sent_words = h.sent_words;
          heard_words = all_push HasWords received L h.heard_words words;
          stands = subst (SessionStands w) same (says s h.stands);
          begun = begun_hears s L mid rid h.begun;
        }

-- a stream of a setup is one more that a side sends, or one more that it hears
module _ (cipher : CipherMeaning) (setup : Setup) (side : Side) (sent received : List Outgoing) (s : Stream) where
  abbrev line : Outgoing
  line = outgoing_as setup s (cache_of s.ssrc setup)

  abbrev sent_so : Bool → List Outgoing
  sent_so b = sent ++ option_to_list (if b then Some line else None)

  abbrev heard_so : Bool → List Outgoing
  heard_so b = received ++ option_to_list (if b then Some line else None)

  module _ (v w z : EndSession) (mid : List ℕ) (words : HasWords line) (known : has_mid mid v.state.medias ≡ true) (once_sent : AreOnce (sent_so (same_side s.side side))) (once_heard : AreOnce (heard_so (same_side s.side (peer_of side))))
      (h : Starts cipher setup side sent received v) where
    pub stream_sends : same_side s.side side ≡ true
        → StreamsChange (with_stream_tx s.ssrc (option_map (λ ssrc. (ssrc, line.start)) s.rtx) mid s.rid) v w
        → StreamsChange (λ r. record r { repairs = change_at s.ssrc (recached line.packets line.age line.cap) r.repairs }) w z
        → Starts cipher setup side (sent_so (same_side s.side side)) (heard_so (same_side s.side (peer_of side))) z
    stream_sends own first cached =
        let others : same_side s.side (peer_of side) ≡ false = other_side s.side side ∙ ap not own in
        let made = starts_sends cipher setup side sent received v w z line mid s.rid words known (subst (λ b. AreOnce (sent_so b)) own once_sent) first cached h in
        subst (λ b. Starts cipher setup side (sent_so b) (heard_so (same_side s.side (peer_of side))) z) (sym own)
        (subst (λ b. Starts cipher setup side (sent ++ line ∷ []) (heard_so b) z) (sym others)
        (subst (λ l. Starts cipher setup side (sent ++ line ∷ []) l z) (sym (append-nil received)) made))

    pub stream_hears : same_side s.side side ≡ false
        → StreamsChange (with_stream_rx s.ssrc s.rtx mid s.rid (is_none s.rtx)) v w
        → Starts cipher setup side (sent_so (same_side s.side side)) (heard_so (same_side s.side (peer_of side))) w
    stream_hears own says =
        let others : same_side s.side (peer_of side) ≡ true = other_side s.side side ∙ ap not own in
        let made = starts_hears cipher setup side sent received v w line mid s.rid words (subst (λ b. AreOnce (heard_so b)) others once_heard) says h in
        subst (λ b. Starts cipher setup side (sent_so b) (heard_so (same_side s.side (peer_of side))) w) (sym own)
        (subst (λ b. Starts cipher setup side (sent_so false) (heard_so b) w) (sym others)
        (subst (λ l. Starts cipher setup side l (received ++ line ∷ []) w) (sym (append-nil sent)) made))

pub starts_same : (cipher : CipherMeaning) (setup : Setup) (side : Side) (ks bs xs ys : List Outgoing) (v : EndSession) → ks ≡ bs → xs ≡ ys
    → Starts cipher setup side ks xs v → Starts cipher setup side bs ys v
starts_same cipher setup side ks bs xs ys v sent received h =
    subst (λ (l : List Outgoing). Starts cipher setup side l ys v) sent (subst (λ (l : List Outgoing). Starts cipher setup side ks l v) received h)
