-- The datagram of a write is yielded exactly where its number widens to itself and is fresh.
use Rattle.std.proofs.Common.{◌≡◌, inl, inr, ℕ, ◌%◌, true, false, List, [], ◌∷◌, map, refl, sym, ap, ◌∙◌, subst}
use Rattle.std.specs.Prelude.{◌==◌, ◌≤◌, length}
use Rattle.std.proofs.lemmas.Bool.{or_right, false≢true}
use Rattle.rtp_base.specs.Widen.{widen16}
use Rattle.repair_core.specs.Fresh.{greatest_of, is_fresh}
use Rattle.rtp_base.specs.declared.kind.Kind.TheVariants.{Rtp}
use Rattle.media_model.specs.declared.entry.Write.{Write}
use Rattle.media_model.specs.declared.entry.Packet.{Packet}
use Rattle.run_model.specs.Events.{as_packet, Plain, Event, got, opened, yielded, Types, Outgoing, Incoming}
use Rattle.run_model.specs.Listing.{IsIn}
use Rattle.run_model.specs.Sending.{sending_of}
use Rattle.run_model.specs.Seals.{Sealing, IsSeal}
use Rattle.run_model.specs.TxPlay.{TxRecord, IsApart}
use Rattle.run_model.specs.Receiving.{Lists, lists, concerns, is_repair, begun_taken, first_packet, yields, Opens}
use Rattle.run_model.specs.RxPlay.{RxRecord, lists_in}
use Rattle.run_model.specs.Tables.{Table, lines}
use Rattle.media_model.specs.declared.entry.Side.{Side}
use Rattle.media_model.specs.declared.entry.Side.TheVariants.{A, B}
use Rattle.media_model.specs.Sides.{peer_of}
use Rattle.run_model.specs.Runs.{Happening, events_of, Runs, SealsApart}
use Rattle.run_model.specs.Whole.{Config, incoming_of, Session, Turns, writes, ticks, calls, requests, opens, hears, stays, Played, session_of, IsSound, HeadsApart, RunsYieldExactly}
use Rattle.media_laws.proofs.Lists.{IsIn-map, IsIn-from_map}
use Rattle.media_laws.proofs.Nonces.{apart_in}
use Rattle.media_laws.proofs.RxTracks.{rx_tracks}
use Rattle.media_laws.proofs.RunYields.{tx_plays, rx_plays, sent_is_write_of, first_is_write}
use Rattle.media_laws.proofs.Asks.{mains}
use Rattle.media_laws.proofs.Whole.{AreAway, away_in, own_concern, AllRun, no_runs, and_run, AllRuns, behind, not_zero, runs_a, runs_b, apart_a, apart_b}

-- of a table one stream alone has an SSRC
one_stream : (table : List (Incoming × RxRecord)) → AreAway (mains table) → (ssrc : ℕ) (s t : Incoming × RxRecord) → IsIn s table → IsIn t table → concerns s.0 ssrc ≡ true → concerns t.0 ssrc ≡ true → s ≡ t
one_stream [] apart ssrc s t i j mine yours = absurd i
one_stream (u ∷ table) apart ssrc s t (inl e) (inl f) mine yours = e ∙ sym f
one_stream (u ∷ table) apart ssrc s t (inl e) (inr j) mine yours =
    absurd (false≢true (sym (away_in u.0 (mains table) t.0 apart.0 (IsIn-map (λ (v : Incoming × RxRecord). v.0) t table j) ssrc (subst (λ (v : Incoming × RxRecord). concerns v.0 ssrc ≡ true) e mine)) ∙ yours))
one_stream (u ∷ table) apart ssrc s t (inr i) (inl f) mine yours =
    absurd (false≢true (sym (away_in u.0 (mains table) s.0 apart.0 (IsIn-map (λ (v : Incoming × RxRecord). v.0) s table i) ssrc (subst (λ (v : Incoming × RxRecord). concerns v.0 ssrc ≡ true) f yours)) ∙ mine))
one_stream (u ∷ table) apart ssrc s t (inr i) (inr j) mine yours = one_stream table apart.1 ssrc s t i j mine yours

-- the record of a stream, and that it stands in the table
record Found (C : Config) (side : Side) (entries : List Happening) (M : Outgoing) (table : List (Incoming × RxRecord)) : Type 0 where
  pub t : TxRecord
  pub x : RxRecord
  pub there : IsIn (incoming_of M, x) table
  pub runs : Runs C.types (C.seals (peer_of side)) C.threshold side M (incoming_of M) t x entries

found_in : {C : Config} {side : Side} {entries : List Happening} (M : Outgoing) {ts : Table} {xs : List (Incoming × RxRecord)} → AllRun C side entries ts xs → IsIn M (lines ts) → Found C side entries M xs
found_in M no_runs i = absurd i
found_in {C} {side} {entries} M (and_run {t = t} {x = x} N r rest) (inl e) = record {
  t = t;
  x = x;
  there = inl (ap (λ (K : Outgoing). (incoming_of K, x)) e);
  runs = subst (λ (K : Outgoing). Runs C.types (C.seals (peer_of side)) C.threshold side K (incoming_of K) t x entries) (sym e) r;
}
found_in M (and_run N r rest) (inr i) = let f = found_in M rest i in record { t = f.t; x = f.x; there = inr f.there; runs = f.runs }

founds_in : {C : Config} {side : Side} {entries : List Happening} (M : Outgoing) {ts : Table} {xs : List (Incoming × RxRecord)} → AllRuns C side entries ts xs → IsIn M (lines ts) → Found C side entries M xs
founds_in M (behind x r) i = let f = found_in M r i in record { t = f.t; x = f.x; there = inr f.there; runs = f.runs }

found : {C : Config} {a b : Session} {entries : List Happening} → IsSound C → Played C a b entries → (side : Side) (M : Outgoing) → IsIn M (C.outgoing (peer_of side))
    → Found C side entries M (session_of side a b).rx.table × AreAway (mains (session_of side a b).rx.table)
found sound h A M i = (founds_in M (runs_a sound h) (subst (IsIn M) (sym (apart_b sound h).1.1) i), (apart_a sound h).0)
found sound h B M i = (founds_in M (runs_b sound h) (subst (IsIn M) (sym (apart_a sound h).1.1) i), (apart_b sound h).0)

module _ (T : Types) (seal : Sealing) (M : Outgoing) (apart : IsApart M) (seals : SealsApart seal) (heads : HeadsApart seal) (real : (M.ssrc == 0) ≡ false)
    (w : Write) (at : w.ssrc ≡ M.ssrc) (claimed : T.claims w.pt ≡ true) (primary : T.is_rtx w.pt ≡ false) (bytes : List ℕ) (made : IsSeal seal M.ssrc w.number (sending_of w) bytes) where
  -- a first sending is no repair
  no_repair : (p : Plain) → p.pt ≡ w.pt → is_repair T (incoming_of M) M.ssrc p ≡ false
  no_repair p pt = let bare : T.is_rtx p.pt ≡ false = ap T.is_rtx pt ∙ primary in rw (apart, bare) refl

  -- it opens where its number widens to itself and is fresh
  opens_so : (l : Lists) → length bytes ≤ 2000 → widen16 (greatest_of (begun_taken l)) (w.number % 65536) ≡ w.number → is_fresh (begun_taken l) w.number ≡ true
      → Opens T (incoming_of M) seal l bytes M.ssrc w.number (sending_of w)
  opens_so l short widens fresh =
      let plain : is_repair T (incoming_of M) M.ssrc (sending_of w) ≡ false = no_repair (sending_of w) refl in record {
        short = short;
        mine = own_concern (incoming_of M);
        claimed = or_right (M.ssrc == 0) (T.claims w.pt) claimed;
        number = rw plain (sym widens);
        fresh = rw plain fresh;
        sealed = made;
        unpads = λ padded. absurd (false≢true padded);
      }

  -- what it opens to, and what is then yielded
  opened_so : (l : Lists) (n : ℕ) (p : Plain) → Opens T (incoming_of M) seal l bytes M.ssrc n p
      → (n ≡ widen16 (greatest_of (begun_taken l)) (w.number % 65536)) × (is_fresh (begun_taken l) n ≡ true) × (yields T (incoming_of M) l M.ssrc n p ≡ first_packet (incoming_of M) n p ∷ [])
  opened_so l n p o =
      let plain : is_repair T (incoming_of M) M.ssrc p ≡ false = no_repair p (heads.type M.ssrc n M.ssrc w.number p (sending_of w) bytes o.sealed made) in
      let low : n % 65536 ≡ w.number % 65536 = heads.low M.ssrc n M.ssrc w.number p (sending_of w) bytes o.sealed made in
      let number : n ≡ widen16 (greatest_of (begun_taken l)) (n % 65536) = rw plain at o.number in
      (number ∙ ap (widen16 (greatest_of (begun_taken l))) low, rw plain at o.fresh, rw (plain, real) refl)

  write_yields : (l : Lists) (n : ℕ) (p : Plain) → Opens T (incoming_of M) seal l bytes M.ssrc n p → n ≡ w.number → first_packet (incoming_of M) n p ≡ as_packet w
  write_yields l n p o is =
      let same : IsSeal seal M.ssrc w.number p bytes = subst (λ m. IsSeal seal M.ssrc m p bytes) is o.sealed in
      first_is_write (incoming_of M) n p w at (sym is) (seals M.ssrc w.number p (sending_of w) bytes same made)

in_yielded : (packet : Packet) (ps : List Packet) → IsIn (yielded packet) (map yielded ps) → IsIn packet ps
in_yielded packet ps i = let r = IsIn-from_map yielded (yielded packet) ps i in let same : packet ≡ r.0 = cc r.2 in subst (λ q. IsIn q ps) (sym same) r.1

-- the stream that the datagram opens on is its own
own_stream : {C : Config} {side : Side} {entries : List Happening} {M : Outgoing} {table : List (Incoming × RxRecord)} {seal : Sealing} (f : Found C side entries M table) → AreAway (mains table) → (w : Write) (bytes : List ℕ) → HeadsApart seal
    → IsSeal seal M.ssrc w.number (sending_of w) bytes → (ssrc n : ℕ) (p : Plain) (s : Incoming × RxRecord) → IsIn s table → Opens C.types s.0 seal (lists_in s.1) bytes ssrc n p
    → (ssrc ≡ M.ssrc) × (s ≡ (incoming_of M, f.x))
own_stream {C} {M = M} {table = table} f apart w bytes heads made ssrc n p s i o =
    let same : ssrc ≡ M.ssrc = heads.ssrc ssrc n M.ssrc w.number p (sending_of w) bytes o.sealed made in
    (same, one_stream table apart M.ssrc s (incoming_of M, f.x) i f.there (subst (λ r. concerns s.0 r ≡ true) same o.mine) (own_concern (incoming_of M)))

pub runs_yield_exactly : RunsYieldExactly
runs_yield_exactly C a b c entries side time bytes new sound heads h turn M i y sent ok made =
    (λ j. so (got time Rtp bytes ∷ new) refl turn j, λ r. yes (got time Rtp bytes ∷ new) refl turn r.0 r.1)
  where
    w : Write
    w = y.1

    real : (M.ssrc == 0) ≡ false
    real = not_zero M (sound.nonzero (peer_of side) M i)

    f : Found C side entries M (session_of side a b).rx.table
    f = (found sound h side M i).0

    apart : IsApart M
    apart = apart_in (C.outgoing (peer_of side)) M (sound.apart (peer_of side)) i

    at : y.1.ssrc ≡ M.ssrc
    at = (sent_is_write_of (incoming_of M) apart refl (tx_plays f.runs) y sent).1

    l : Lists
    l = lists C.types (incoming_of M) (events_of side entries)

    same : l ≡ lists_in f.x
    same = (rx_tracks (rx_plays f.runs)).same

    -- what opens, moved to the stream
    moved : (ssrc n : ℕ) (p : Plain) (s : Incoming × RxRecord) → (ssrc ≡ M.ssrc) × (s ≡ (incoming_of M, f.x)) → Opens C.types s.0 (C.seals (peer_of side)) (lists_in s.1) bytes ssrc n p
        → Opens C.types (incoming_of M) (C.seals (peer_of side)) l bytes M.ssrc n p × (yields C.types s.0 (lists_in s.1) ssrc n p ≡ yields C.types (incoming_of M) l M.ssrc n p)
    moved ssrc n p s is o = (
      subst (λ z. Opens C.types (incoming_of M) (C.seals (peer_of side)) z bytes M.ssrc n p) (sym same)
          (subst (λ r. Opens C.types (incoming_of M) (C.seals (peer_of side)) (lists_in f.x) bytes r n p) is.0
          (subst (λ (z : Incoming × RxRecord). Opens C.types z.0 (C.seals (peer_of side)) (lists_in z.1) bytes ssrc n p) is.1 o)),
      ap (λ (z : Incoming × RxRecord). yields C.types z.0 (lists_in z.1) ssrc n p) is.1 ∙ ap (λ r. yields C.types (incoming_of M) (lists_in f.x) r n p) is.0
          ∙ ap (λ z. yields C.types (incoming_of M) z M.ssrc n p) (sym same),
    )

    -- the two ways, where it opens
    so_opens : (ssrc n : ℕ) (p : Plain) (s : Incoming × RxRecord) → IsIn s (session_of side a b).rx.table → Opens C.types s.0 (C.seals (peer_of side)) (lists_in s.1) bytes ssrc n p
        → IsIn (yielded (as_packet y.1)) (opened ssrc n p ∷ map yielded (yields C.types s.0 (lists_in s.1) ssrc n p))
        → (widen16 (greatest_of (begun_taken l)) (y.1.number % 65536) ≡ y.1.number) × (is_fresh (begun_taken l) y.1.number ≡ true)
    so_opens ssrc n p s k o (inl is) = absurd cc
    so_opens ssrc n p s k o (inr j) =
        let m = moved ssrc n p s (own_stream f (found sound h side M i).1 y.1 bytes heads made ssrc n p s k o) o in
        let r = opened_so C.types (C.seals (peer_of side)) M apart (sound.seals (peer_of side)) heads real y.1 at ok.claimed ok.primary bytes made l n p m.0 in
        let one : IsIn (as_packet y.1) (first_packet (incoming_of M) n p ∷ []) = subst (IsIn (as_packet y.1)) (m.1 ∙ r.2) (in_yielded (as_packet y.1) (yields C.types s.0 (lists_in s.1) ssrc n p) j) in
        let number : y.1.number ≡ n = elim one [ inl e ↦ ap (λ (q : Packet). q.number) e | inr other ↦ absurd other ] in
        (sym (number ∙ r.0), subst (λ k. is_fresh (begun_taken l) k ≡ true) (sym number) r.1)

    yes_opens : (ssrc n : ℕ) (p : Plain) (s : Incoming × RxRecord) → IsIn s (session_of side a b).rx.table → Opens C.types s.0 (C.seals (peer_of side)) (lists_in s.1) bytes ssrc n p
        → widen16 (greatest_of (begun_taken l)) (y.1.number % 65536) ≡ y.1.number
        → IsIn (yielded (as_packet y.1)) (opened ssrc n p ∷ map yielded (yields C.types s.0 (lists_in s.1) ssrc n p))
    yes_opens ssrc n p s k o widens =
        let m = moved ssrc n p s (own_stream f (found sound h side M i).1 y.1 bytes heads made ssrc n p s k o) o in
        let r = opened_so C.types (C.seals (peer_of side)) M apart (sound.seals (peer_of side)) heads real y.1 at ok.claimed ok.primary bytes made l n p m.0 in
        let packet = write_yields C.types (C.seals (peer_of side)) M apart (sound.seals (peer_of side)) heads real y.1 at ok.claimed ok.primary bytes made l n p m.0 (r.0 ∙ widens) in
        inr (subst (λ ps. IsIn (yielded (as_packet y.1)) (map yielded ps)) (sym (m.1 ∙ r.2)) (inl (ap yielded (sym packet))))

    so : {d : Session} (all : List Event) → all ≡ got time Rtp bytes ∷ new → Turns C side (session_of side a b) d all → IsIn (yielded (as_packet y.1)) new
        → (widen16 (greatest_of (begun_taken l)) (y.1.number % 65536) ≡ y.1.number) × (is_fresh (begun_taken l) y.1.number ≡ true)
    so all e (writes t v late unused) j = absurd cc
    so all e (ticks t more next late d feedback count) j = absurd cc
    so all e (opens t bs ssrc n p s late k o) j =
        let there : bs ≡ bytes = cc in
        let rest : opened ssrc n p ∷ map yielded (yields C.types s.0 (lists_in s.1) ssrc n p) ≡ new = cc in
        so_opens ssrc n p s k (subst (λ z. Opens C.types s.0 (C.seals (peer_of side)) (lists_in s.1) z ssrc n p) there o) (subst (IsIn (yielded (as_packet y.1))) (sym rest) j)
    so all e (calls t items late others) j = absurd cc
    so all e (requests t late) j = absurd cc
    so all e (hears t bs index items late report k) j = absurd cc
    so all e (stays t kind bs late out unread) j = absurd (let rest : new ≡ [] = cc in subst (IsIn (yielded (as_packet y.1))) rest j)

    yes : {d : Session} (all : List Event) → all ≡ got time Rtp bytes ∷ new → Turns C side (session_of side a b) d all
        → widen16 (greatest_of (begun_taken l)) (y.1.number % 65536) ≡ y.1.number → is_fresh (begun_taken l) y.1.number ≡ true → IsIn (yielded (as_packet y.1)) new
    yes all e (writes t v late unused) widens fresh = absurd cc
    yes all e (ticks t more next late d feedback count) widens fresh = absurd cc
    yes all e (opens t bs ssrc n p s late k o) widens fresh =
        let there : bs ≡ bytes = cc in
        let rest : opened ssrc n p ∷ map yielded (yields C.types s.0 (lists_in s.1) ssrc n p) ≡ new = cc in
        subst (IsIn (yielded (as_packet y.1))) rest (yes_opens ssrc n p s k (subst (λ z. Opens C.types s.0 (C.seals (peer_of side)) (lists_in s.1) z ssrc n p) there o) widens)
    yes all e (calls t items late others) widens fresh = absurd cc
    yes all e (requests t late) widens fresh = absurd cc
    yes all e (hears t bs index items late report k) widens fresh = absurd cc
    yes all e (stays t kind bs late out unread) widens fresh =
        let there : bs ≡ bytes = cc in
        let of : kind ≡ Rtp = cc in
        absurd (out of (incoming_of M, f.x) f.there M.ssrc y.1.number (sending_of y.1)
        (subst (λ z. Opens C.types (incoming_of M) (C.seals (peer_of side)) (lists_in f.x) z M.ssrc y.1.number (sending_of y.1)) (sym there)
        (subst (λ z. Opens C.types (incoming_of M) (C.seals (peer_of side)) z bytes M.ssrc y.1.number (sending_of y.1)) same
        (opens_so C.types (C.seals (peer_of side)) M apart (sound.seals (peer_of side)) heads real y.1 at ok.claimed ok.primary bytes made l ok.short widens fresh))))
