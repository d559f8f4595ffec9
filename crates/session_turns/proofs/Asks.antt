-- What a tick says of the incoming streams, in order: reports, and in a round a NACK of each stream where it owes one.
use Rattle.std.proofs.Common.{◌≡◌, ℕ, ◌<◌, ◌^◌, Bool, true, false, List, [], ◌∷◌, ◌++◌, map, Option, Some, None, refl, sym, ap, ◌∙◌, subst, arith, append_assoc}
use Rattle.std.specs.Prelude.{◌&&◌, if◌then◌else◌}
use Rattle.std.specs.List.{AllByRecursion, AllZip, flat_map}
use Rattle.rtp_base.specs.declared.nack_entry.NackEntry.{NackEntry}
use Rattle.rtcp_wire.specs.declared.packet.Rtcp.{Rtcp}
use Rattle.rtcp_wire.specs.declared.rtcp_fb.RtcpFb.{RtcpFb}
use Rattle.rtcp_wire.specs.declared.rtcp_fb.RtcpFb.TheVariants.{Nack}
use Rattle.rtcp_wire.specs.Laws.{ItemsReadBack, ItemsFitByLengths}
use Rattle.repair_core.specs.Rounds.{Heard, wait_of}
use Rattle.repair_core.specs.Entries.{packed, names, RoundsNameTheDue}
use Rattle.stream_core.specs.Missing.{is_enabled, due_in, due_of, nack_with, nack_of}
use Rattle.stream_core.specs.Reporting.{is_among, front_items, after_front, rx_items, items_with}
use Rattle.stream_core.specs.RxRecord.{RxRecord as StreamRx}
use Rattle.stream_core.specs.declared.reports.Tick.{Tick}
use Rattle.session_core.specs.SessionRecord.{SessionRecord}
use Rattle.run_model.specs.Events.{Incoming, Outgoing}
use Rattle.run_model.specs.RxPlay.{RxRecord, is_enabled as plain_enabled}
use Rattle.run_model.specs.Asking.{RxSide, is_round, due_in as plain_due_in, owed, modulo, IsOther, Feedback, none, besides, asks, owes_nothing}
use Rattle.run_model.specs.Whole.{incoming_of, probes}
use Rattle.session_turns.specs.Mirrors.{IsWide, RxStands, RxMirror, rx_mirror}
use Rattle.session_turns.proofs.Lists.{and_false, flat_map_append, all_append}
use Rattle.session_turns.proofs.Entries.{AreFew, due_few}
use Rattle.session_turns.proofs.Items.{IsRead, told_of, nack_is_read, nack_told}
use Rattle.session_turns.proofs.Others.{asides_read, asides_told, front_asides}
use Rattle.session_turns.proofs.IncomingStreams.{enabled_same, probes_rest, front_stands}

due_same : (now : ℕ) (trip : Option ℕ) (o : Option Heard) → due_in now trip o ≡ plain_due_in o now (wait_of trip)
due_same now trip None = refl
due_same now trip (Some h) = refl

none_of_map : (ns : List ℕ) → [] ≡ map modulo ns → ns ≡ []
none_of_map [] e = refl
none_of_map (n ∷ ns) e = absurd cc

-- the entries of what is due name it
names_due : RoundsNameTheDue → (now : ℕ) (trip : Option ℕ) (o : Option Heard) → flat_map names (packed None (due_in now trip o)) ≡ map modulo (due_in now trip o)
names_due law now trip None = refl
names_due law now trip (Some h) = law h now (wait_of trip)

names_all : RoundsNameTheDue → (now : ℕ) (e : Bool) (trip : Option ℕ) (o : Option Heard)
    → flat_map names (packed None (if e then due_in now trip o else [])) ≡ map modulo (if e then due_in now trip o else [])
names_all law now true trip o = names_due law now trip o
names_all law now false trip o = refl

few_all : (now : ℕ) (e : Bool) (trip : Option ℕ) (o : Option Heard) → AreFew (packed None (if e then due_in now trip o else []))
few_all now true trip None = record { few = omega arith; fit = tt }
few_all now true trip (Some h) = due_few h now (wait_of trip)
few_all now false trip o = record { few = omega arith; fit = tt }

-- an item is read back where there is one
nack_read : (sender ssrc : ℕ) (es : List NackEntry) → ItemsFitByLengths → ssrc < 2 ^ 32 → AreFew es → AllByRecursion IsRead (nack_with sender ssrc es)
nack_read sender ssrc [] law word few = tt
nack_read sender ssrc (e ∷ es) law word few = (nack_is_read sender ssrc (e ∷ es) law word few, tt)

abbrev HasWord : Incoming × RxRecord → Type 0
HasWord s = s.0.ssrc < 2 ^ 32

module _ (threshold : ℕ) (trip : Option ℕ) (seen : List (ℕ × List ℕ)) (law : ItemsFitByLengths) (t : Tick) where
  -- a stream that asks for packets, where the tick is a round
  asks_read : (b : Bool) (e : ℕ × StreamRx) (s : Incoming × RxRecord) → RxStands threshold trip seen e s → HasWord s
      → AllByRecursion IsRead (if b then nack_of t.sender_ssrc t.now e else [])
  asks_read true e s h w =
      let word = subst (λ (n : ℕ). n < 2 ^ 32) (sym h.mirrors.ssrc) w in
      nack_read t.sender_ssrc e.1.state.ssrc (packed None (due_of t.now e.1)) law word (few_all t.now (is_enabled e.1) e.1.state.trip e.1.numbers)
  asks_read false e s h w = tt

  one_read : (reports : Bool) (e : ℕ × StreamRx) (s : Incoming × RxRecord) → RxStands threshold trip seen e s → HasWord s → AllByRecursion IsRead (rx_items t reports e)
  one_read reports e s h w =
      all_append IsRead (front_items t reports e.1) (if t.is_round then nack_of t.sender_ssrc t.now (e.0, after_front t reports e.1) else [])
      (asides_read (front_items t reports e.1) (front_asides law t reports e.1)) (asks_read t.is_round (e.0, after_front t reports e.1) s (front_stands threshold seen t trip reports e s h) w)

  all_read : (mids : List (List ℕ)) (rx : List (ℕ × StreamRx)) (table : List (Incoming × RxRecord)) → AllZip (RxStands threshold trip seen) rx table → AllByRecursion HasWord table
      → AllByRecursion IsRead (items_with t mids rx)
  all_read mids [] [] h w = tt
  all_read mids [] (s ∷ table) h w = absurd h
  all_read mids (e ∷ rx) [] h w = absurd h
  all_read mids (e ∷ rx) (s ∷ table) h w =
      let reports : Bool = is_among e.1.state.mid mids in
      all_append IsRead (rx_items t reports e) (items_with t mids rx) (one_read reports e s h.0 w.0) (all_read mids rx table h.1 w.1)

-- SSRCs of incoming streams have 32 bits
have_words : (Ls : List Outgoing) (table : List (Incoming × RxRecord)) → map (λ s. s.0) table ≡ map incoming_of Ls → AllByRecursion IsWide Ls → AllByRecursion HasWord table
have_words [] [] e w = tt
have_words [] (s ∷ table) e w = absurd cc
have_words (L ∷ Ls) [] e w = absurd cc
have_words (L ∷ Ls) (s ∷ table) e w =
    let here : s.0 ≡ incoming_of L = cc in
    let rest : map (λ (x : Incoming × RxRecord). x.0) table ≡ map incoming_of Ls = cc in (
      subst (λ (M : Incoming). M.ssrc < 2 ^ 32) (sym here) w.0.ssrc.1,
      have_words Ls table rest w.1,
    )

pub incoming_read : (threshold : ℕ) (trip : Option ℕ) (r : SessionRecord) (Ls : List Outgoing) (table : List (Incoming × RxRecord)) → ItemsFitByLengths → (t : Tick) (mids : List (List ℕ))
    → RxMirror threshold trip r table → map (λ s. s.0) table ≡ probes ∷ map incoming_of Ls → AllByRecursion IsWide Ls → AllByRecursion IsRead (items_with t mids r.rx)
incoming_read threshold trip r Ls _ law t mids (rx_mirror s rest is h hs) e w =
    let others : map (λ (x : Incoming × RxRecord). x.0) rest ≡ map incoming_of Ls = cc in
    all_read threshold trip r.seen law t mids r.rx rest hs (have_words Ls rest others w)

-- the feedback of a tick

module _ (side : RxSide) (time : ℕ) where
  only_others : (items : List RtcpFb) → AllByRecursion IsOther items → Feedback side time [] items
  only_others [] h = none
  only_others (x ∷ items) h = besides x h.0 (only_others items h.1)

  others_first : (table : List (Incoming × RxRecord)) (others items : List RtcpFb) → AllByRecursion IsOther others → Feedback side time table items → Feedback side time table (others ++ items)
  others_first table [] items h rest = rest
  others_first table (x ∷ others) items h rest = besides x h.0 (others_first table others items h.1 rest)

  rests_in : (s : Incoming × RxRecord) (table : List (Incoming × RxRecord)) (items : List RtcpFb) → is_round side time ≡ false → Feedback side time table items → Feedback side time (s ∷ table) items
  rests_in s table items b rest = owes_nothing s (λ i. if b i && plain_enabled s.0 s.1 then plain_due_in s.1.numbers time (wait_of side.trip) else []) rest

  module _ (back : ItemsReadBack) (lengths : ItemsFitByLengths) where
    one_asks : (sender ssrc : ℕ) (s : Incoming × RxRecord) (table : List (Incoming × RxRecord)) (items : List RtcpFb) (es : List NackEntry) → ssrc ≡ s.0.ssrc → ssrc < 2 ^ 32 → AreFew es
        → flat_map names es ≡ map modulo (owed side time s) → Feedback side time table items → Feedback side time (s ∷ table) (flat_map told_of (nack_with sender ssrc es) ++ items)
    one_asks sender ssrc s table items [] same word few named rest = owes_nothing s (none_of_map (owed side time s) named) rest
    one_asks sender ssrc s table items (e ∷ es) same word few named rest =
        subst (λ (l : List RtcpFb). Feedback side time (s ∷ table) ((l ++ []) ++ items)) (sym (nack_told back sender ssrc (e ∷ es) lengths word few))
        (subst (λ (n : ℕ). Feedback side time (s ∷ table) (Nack n (e ∷ es) ∷ items)) (sym same) (asks s (e ∷ es) named rest))

    module _ (law : RoundsNameTheDue) (threshold : ℕ) (seen : List (ℕ × List ℕ)) where
      due_owed : is_round side time ≡ true → (e : ℕ × StreamRx) (s : Incoming × RxRecord) → RxStands threshold side.trip seen e s → due_of time e.1 ≡ owed side time s
      due_owed round e s h =
          let enabled = enabled_same threshold seen e.1 s h.mirrors in
          let due = (λ i. due_in time (h.trip_is i) (h.mirrors.numbers i)) ∙ due_same time side.trip s.1.numbers in
          (λ i. if enabled i then due i else []) ∙ sym (λ i. if round i && plain_enabled s.0 s.1 then plain_due_in s.1.numbers time (wait_of side.trip) else [])

      asks_told : (sender : ℕ) (b : Bool) → is_round side time ≡ b → (e : ℕ × StreamRx) (s : Incoming × RxRecord) (table : List (Incoming × RxRecord)) (items : List RtcpFb)
          → RxStands threshold side.trip seen e s → HasWord s → Feedback side time table items
          → Feedback side time (s ∷ table) (flat_map told_of (if b then nack_of sender time e else []) ++ items)
      asks_told sender true round e s table items h w rest =
          let named = names_all law time (is_enabled e.1) e.1.state.trip e.1.numbers ∙ ap (map modulo) (due_owed round e s h) in
          let word = subst (λ (n : ℕ). n < 2 ^ 32) (sym h.mirrors.ssrc) w in
          one_asks sender e.1.state.ssrc s table items (packed None (due_of time e.1)) h.mirrors.ssrc word (few_all time (is_enabled e.1) e.1.state.trip e.1.numbers) named rest
      asks_told sender false round e s table items h w rest = rests_in s table items round rest

-- what streams say, told one after another
told_grouped : (front asking rest : List Rtcp) (behind : List RtcpFb)
    → flat_map told_of ((front ++ asking) ++ rest) ++ behind ≡ flat_map told_of front ++ (flat_map told_of asking ++ (flat_map told_of rest ++ behind))
told_grouped front asking rest behind =
    ap (λ (l : List RtcpFb). l ++ behind) (flat_map_append told_of (front ++ asking) rest)
    ∙ append_assoc (flat_map told_of (front ++ asking)) (flat_map told_of rest) behind
    ∙ ap (λ (l : List RtcpFb). l ++ (flat_map told_of rest ++ behind)) (flat_map_append told_of front asking)
    ∙ append_assoc (flat_map told_of front) (flat_map told_of asking) (flat_map told_of rest ++ behind)

module _ (side : RxSide) (t : Tick) (back : ItemsReadBack) (lengths : ItemsFitByLengths) (law : RoundsNameTheDue) (threshold : ℕ) (round : is_round side t.now ≡ t.is_round)
    (behind : List RtcpFb) (others : AllByRecursion IsOther behind) where
  abbrev Told : List (Incoming × RxRecord) → List Rtcp → Type 0
  Told table items = Feedback side t.now table (flat_map told_of items ++ behind)

  module _ (seen : List (ℕ × List ℕ)) (mids : List (List ℕ)) where
    one_told : (reports : Bool) (e : ℕ × StreamRx) (s : Incoming × RxRecord) (table : List (Incoming × RxRecord)) (items : List Rtcp) → RxStands threshold side.trip seen e s → HasWord s
        → Told table items → Told (s ∷ table) (rx_items t reports e ++ items)
    one_told reports e s table items h w rest =
        let first : List Rtcp = front_items t reports e.1 in
        let second : List Rtcp = if t.is_round then nack_of t.sender_ssrc t.now (e.0, after_front t reports e.1) else [] in
        subst (λ (l : List RtcpFb). Feedback side t.now (s ∷ table) l) (sym (told_grouped first second items behind))
        (others_first side t.now (s ∷ table) (flat_map told_of first) (flat_map told_of second ++ (flat_map told_of items ++ behind)) (asides_told back first (front_asides lengths t reports e.1))
        (asks_told side t.now back lengths law threshold seen t.sender_ssrc t.is_round round (e.0, after_front t reports e.1) s table (flat_map told_of items ++ behind)
        (front_stands threshold seen t side.trip reports e s h) w rest))

    all_told : (rx : List (ℕ × StreamRx)) (table : List (Incoming × RxRecord)) → AllZip (RxStands threshold side.trip seen) rx table → AllByRecursion HasWord table → Told table (items_with t mids rx)
    all_told [] [] h w = only_others side t.now behind others
    all_told [] (s ∷ table) h w = absurd h
    all_told (e ∷ rx) [] h w = absurd h
    all_told (e ∷ rx) (s ∷ table) h w = one_told (is_among e.1.state.mid mids) e s table (items_with t mids rx) h.0 w.0 (all_told rx table h.1 w.1)

  pub feedback_is : (mids : List (List ℕ)) (r : SessionRecord) (Ls : List Outgoing) (table : List (Incoming × RxRecord)) → RxMirror threshold side.trip r table
      → map (λ s. s.0) table ≡ probes ∷ map incoming_of Ls → AllByRecursion IsWide Ls → Told table (items_with t mids r.rx)
  feedback_is mids r Ls _ (rx_mirror s rest is m hs) e w =
      let others : map (λ (x : Incoming × RxRecord). x.0) rest ≡ map incoming_of Ls = cc in
      let rests = probes_rest s is in
      owes_nothing s (ap (λ (b : Bool). if b then plain_due_in s.1.numbers t.now (wait_of side.trip) else []) (ap (λ (b : Bool). is_round side t.now && b) rests ∙ and_false (is_round side t.now)))
      (all_told r.seen mids r.rx rest hs (have_words Ls rest others w))
