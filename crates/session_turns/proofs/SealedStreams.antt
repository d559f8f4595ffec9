-- What the outgoing streams hold may be sealed, and what a poll of them gives is right.
use Rattle.std.proofs.Common.{◌≡◌, ◌⊎◌, inl, inr, ℕ, zero, suc, ◌<◌, ◌^◌, Bool, true, false, ◌&&◌, List, [], ◌∷◌, ◌++◌, map, slice_get, Option, Some, None, refl, sym, ap, ◌∙◌, subst}
use Rattle.std.specs.Prelude.{◌==◌, if◌then◌else◌, is_some, option_and_then, position, nat_eq}
use Rattle.std.specs.List.{list_any, AllByRecursion}
use Rattle.std.specs.Map.{keys_of, values_of}
use Rattle.std.specs.Option.{option_map, option_map_or}
use Rattle.resend_core.specs.ResendStore.{Event as Stored, pushed, evicted, Past, last_under, latter, stored_under}
use Rattle.rtx_core.specs.Resends.{Caches, cached, FirstHeld, none_held, passed, found, IsNext, is_capped}
use Rattle.rtx_core.specs.declared.resend.Resend.{Resend}
use Rattle.rtp_wire.specs.HeaderLaws.{WrittenIsReadAgain}
use Rattle.srtp_core.specs.Cipher.{CipherMeaning}
use Rattle.srtp_core.specs.Contexts.{SrtpState}
use Rattle.stream_core.specs.declared.packet.RtpPacket.{RtpPacket}
use Rattle.stream_core.specs.declared.payload_types.TypeRow.{TypeRow}
use Rattle.stream_core.specs.declared.stream_tx.PacketReceipt.{PacketReceipt}
use Rattle.stream_core.specs.declared.transport.Transport.{Transport}
use Rattle.stream_core.specs.Queue.{with_stamp, if_stamped, next_of, rest_after, rest_of}
use Rattle.stream_core.specs.Repairing.{SentPacket, RepairsRecord, Repairs, repaired, none_asked, Keeps, kept, counted, Polls, without, again as sends_again, first as sends_first, nothing, repair_of, repairs_of, with_repairs, number_of_sent, size_of_sent}
use Rattle.stream_core.specs.Reporting.{tx_reported}
use Rattle.stream_core.specs.StreamsRecord.{StreamsRecord, PollsAt, polls_at}
use Rattle.stream_core.specs.Tables.{place_of, value_under, each, change_place, change_at}
use Rattle.stream_core.specs.TxRecord.{TxRecord, after_timeout, receipt_of, after_poll}
use Rattle.session_core.specs.Medias.{media_of}
use Rattle.session_core.specs.Reports.{reports_in, sender_after, of_kind, told_kind}
use Rattle.session_core.specs.Sending.{sealed_as}
use Rattle.session_core.specs.SessionRecord.{MediaRecord}
use Rattle.run_model.specs.Events.{Outgoing}
use Rattle.run_model.specs.Tables.{has}
use Rattle.session_turns.specs.Rights.{IsRightRtp}
use Rattle.session_turns.proofs.Headers.{IsFine, right_first, right_repair}
use Rattle.session_turns.proofs.Tests.{some_and_then}

-- a packet that waits on the stream of an SSRC
pub record IsQueued (ssrc : ℕ) (p : RtpPacket) : Type 0 where
  pub fine : IsFine p
  pub on : p.header.ssrc ≡ ssrc

-- what was cached
abbrev pub AreCached : List (Stored SentPacket) → Type 0
AreCached [] = Unit {0}
AreCached (pushed n t p stored ∷ es) = IsFine p.packet × AreCached es
AreCached (evicted t ∷ es) = AreCached es

-- an SSRC of one of these lines
pub record IsOf (lines : List Outgoing) (ssrc : ℕ) : Type 0 where
  pub stream : list_any (λ L. has L ssrc) lines ≡ true
  pub word : ssrc < 2 ^ 32

-- a stream of these lines, and what it sends again
pub record IsSound (lines : List Outgoing) (repairs : List (ℕ × RepairsRecord)) (x : TxRecord) : Type 0 where
  pub own : IsOf lines x.ssrc
  pub rtx : (ssrc : ℕ) → x.rtx ≡ Some ssrc → IsOf lines ssrc
  pub queue : AllByRecursion (IsQueued x.ssrc) x.queue
  pub again : (q : RepairsRecord) → repairs_of x repairs ≡ Some q → AreCached q.cache.events

-- each stream of a table
abbrev pub AreSound : List Outgoing → List (ℕ × RepairsRecord) → List (ℕ × TxRecord) → Type 0
AreSound lines repairs [] = Unit {0}
AreSound lines repairs (e ∷ es) = IsSound lines repairs e.1 × AreSound lines repairs es

-- the packet that is held under a number was cached

latter_is : {A : Type 0} (o p : Option A) (x : A) → latter o p ≡ Some x → (o ≡ Some x) ⊎ (p ≡ Some x)
latter_is o None x e = inl e
latter_is o (Some y) x e = inr e

stored_as : (b : Bool) (t u : ℕ) (v w : SentPacket) → if◌then◌else◌ {A = Option (ℕ × SentPacket)} b (Some (t, v)) None ≡ Some (u, w) → v ≡ w
stored_as true t u v w e = let same : (t, v) ≡ (u, w) = cc in ap (λ (z : ℕ × SentPacket). z.1) same
stored_as false t u v w e = absurd cc

last_fine : (n : ℕ) (es : List (Stored SentPacket)) (t : ℕ) (p : SentPacket) → AreCached es → last_under n es ≡ Some (t, p) → IsFine p.packet
last_fine n [] t p h e = absurd cc
last_fine n (pushed q u v stored ∷ es) t p h e =
    elim (latter_is (stored_under n (pushed q u v stored)) (last_under n es) (t, p) e) [
      | inl here ↦ subst (λ (z : SentPacket). IsFine z.packet) (stored_as (stored && (q == n)) u t v p here) h.0
      | inr later ↦ last_fine n es t p h.1 later
    ]
last_fine n (evicted u ∷ es) t p h e =
    elim (latter_is (stored_under n (evicted u)) (last_under n es) (t, p) e) [
      | inl here ↦ absurd cc
      | inr later ↦ last_fine n es t p h later
    ]

first_fine : (past : Past SentPacket) (rs : List Resend) (o : Option (SentPacket × List Resend)) (p : SentPacket) (rest : List Resend) → AreCached past.events → FirstHeld past rs o
    → o ≡ Some (p, rest) → IsFine p.packet
first_fine past _ _ p rest h none_held e = absurd cc
first_fine past _ _ p rest h (passed r rs o gone next) e = first_fine past rs o p rest h next e
first_fine past _ _ p rest h (found r rs v held) e =
    let same : (v, rs) ≡ (p, rest) = cc in
    subst (λ (z : SentPacket × List Resend). IsFine z.0.packet) same (last_fine r.seq_no past.events held.0 v h held.1)

uncapped : (b : Bool) (o : Option (SentPacket × List Resend)) (p : SentPacket) (rest : List Resend) → Some (p, rest) ≡ (if b then None else o) → o ≡ Some (p, rest)
uncapped true o p rest e = absurd cc
uncapped false o p rest e = sym e

next_fine : (now : ℕ) (q : RepairsRecord) (p : SentPacket) (rest : List Resend) → AreCached q.cache.events → IsNext now q (Some (p, rest)) → IsFine p.packet
next_fine now q p rest h next =
    first_fine q.cache q.state.resends next.0 p rest h next.1 (uncapped (is_capped now q.state.cap) next.0 p rest next.2)

-- one more packet is cached
cached_more : (es : List (Stored SentPacket)) (n t : ℕ) (p : SentPacket) (stored : Bool) → AreCached es → IsFine p.packet → AreCached ((es ++ pushed n t p stored ∷ []) ++ evicted t ∷ [])
cached_more [] n t p stored h f = (f, tt)
cached_more (pushed m u v b ∷ es) n t p stored h f = (h.0, cached_more es n t p stored h.1 f)
cached_more (evicted u ∷ es) n t p stored h f = cached_more es n t p stored h f

caches_fine : (now : ℕ) (p : SentPacket) (q after : RepairsRecord) → Caches size_of_sent number_of_sent now p q after → IsFine p.packet → AreCached q.cache.events
    → AreCached after.cache.events
caches_fine now p q _ (cached stored must) f h = cached_more q.cache.events p.packet.seq_no now p stored h f

keeps_fine : (types : List (ℕ × TypeRow)) (now : ℕ) (p : RtpPacket) (q after : RepairsRecord) → Keeps types now p q after → IsFine p → AreCached q.cache.events
    → AreCached after.cache.events
keeps_fine types now p q _ (kept rtx_type after is caches) f h = caches_fine now (record { packet = p; rtx_type = rtx_type }) q after caches f h
keeps_fine types now p q _ (counted is) f h = h

-- queues

front_fine : (ssrc : ℕ) (ps : List RtpPacket) (p : RtpPacket) → AllByRecursion (IsQueued ssrc) ps → next_of ps ≡ Some p → IsQueued ssrc p
front_fine ssrc [] p h e = absurd cc
front_fine ssrc (v ∷ ps) p h e = by v.timestamp e
  where
    by : (o : Option ℕ) → if_stamped v o ≡ Some p → IsQueued ssrc p
    by None e = absurd cc
    by (Some t) e = let same : v ≡ p = cc in subst (IsQueued ssrc) same h.0

rest_fine : (ssrc : ℕ) (ps : List RtpPacket) → AllByRecursion (IsQueued ssrc) ps → AllByRecursion (IsQueued ssrc) (rest_of ps)
rest_fine ssrc [] h = tt
rest_fine ssrc (v ∷ ps) h = by v.timestamp
  where
    by : (o : Option ℕ) → AllByRecursion (IsQueued ssrc) (rest_after v ps o)
    by None = h
    by (Some t) = h.1

stamp_fine : (ssrc now : ℕ) (ps : List RtpPacket) → AllByRecursion (IsQueued ssrc) ps → AllByRecursion (IsQueued ssrc) (map (with_stamp now) ps)
stamp_fine ssrc now [] h = tt
stamp_fine ssrc now (p ∷ ps) h =
    let f = h.0.fine in (
      record {
        fine = record { number = f.number; low = f.low; unpadded = f.unpadded; time = f.time; few = f.few; room = f.room; words = f.words };
        on = h.0.on;
      },
      stamp_fine ssrc now ps h.1,
    )

module _ (lines : List Outgoing) where
  poll_sound : (qs : List (ℕ × RepairsRecord)) (x : TxRecord) → IsSound lines qs x → IsSound lines qs (after_poll x)
  poll_sound qs x h = record { own = h.own; rtx = h.rtx; queue = rest_fine x.ssrc x.queue h.queue; again = h.again }

  -- a tick
  pub ticked_sound : (qs : List (ℕ × RepairsRecord)) (now : ℕ) (es : List (ℕ × TxRecord)) → AreSound lines qs es → AreSound lines qs (each (after_timeout now) es)
  ticked_sound qs now [] h = tt
  ticked_sound qs now (e ∷ es) h = (
    record { own = h.0.own; rtx = h.0.rtx; queue = stamp_fine e.1.ssrc now e.1.queue h.0.queue; again = h.0.again },
    ticked_sound qs now es h.1,
  )

  -- its reports change, and nothing else
  reported : (qs : List (ℕ × RepairsRecord)) (medias : List MediaRecord) (now : ℕ) (mids : List (List ℕ)) (x : TxRecord) → IsSound lines qs x
      → IsSound lines qs (sender_after medias now mids x)
  reported qs medias now mids x h = by (is_some (reports_in mids medias x))
    where
      by : (b : Bool) → IsSound lines qs (if b then tx_reported now x else x)
      by true = record { own = h.own; rtx = h.rtx; queue = h.queue; again = h.again }
      by false = h

  pub reported_sound : (qs : List (ℕ × RepairsRecord)) (medias : List MediaRecord) (now : ℕ) (mids : List (List ℕ)) (es : List (ℕ × TxRecord)) → AreSound lines qs es
      → AreSound lines qs (each (sender_after medias now mids) es)
  reported_sound qs medias now mids [] h = tt
  reported_sound qs medias now mids (e ∷ es) h = (reported qs medias now mids e.1 h.0, reported_sound qs medias now mids es h.1)

  told : (qs : List (ℕ × RepairsRecord)) (kind : Option Bool) (media : Option MediaRecord) (x : TxRecord) → IsSound lines qs x → IsSound lines qs (of_kind kind media x)
  told qs (Some is_audio) media x h = h
  told qs None None x h = h
  told qs None (Some m) x h = record { own = h.own; rtx = h.rtx; queue = h.queue; again = h.again }

  pub told_sound : (qs : List (ℕ × RepairsRecord)) (medias : List MediaRecord) (es : List (ℕ × TxRecord)) → AreSound lines qs es
      → AreSound lines qs (each (told_kind medias) es)
  told_sound qs medias [] h = tt
  told_sound qs medias (e ∷ es) h = (told qs e.1.reports.clock.is_audio (media_of e.1.mid medias) e.1 h.0, told_sound qs medias es h.1)

  pub sound_at : (qs : List (ℕ × RepairsRecord)) (es : List (ℕ × TxRecord)) (i : ℕ) (x : TxRecord) → AreSound lines qs es → slice_get (values_of es) i ≡ Some x → IsSound lines qs x
  sound_at qs [] i x h e = absurd cc
  sound_at qs (y ∷ es) zero x h e = let same : y.1 ≡ x = cc in subst (IsSound lines qs) same h.0
  sound_at qs (y ∷ es) (suc i) x h e = sound_at qs es i x h.1 e

  sound_change : (qs : List (ℕ × RepairsRecord)) (es : List (ℕ × TxRecord)) (i : ℕ) (x : TxRecord) → AreSound lines qs es → IsSound lines qs x
      → AreSound lines qs (change_place (λ old. x) es i)
  sound_change qs [] i x h s = tt
  sound_change qs (e ∷ es) zero x h s = (s, h.1)
  sound_change qs (e ∷ es) (suc i) x h s = (h.0, sound_change qs es i x h.1 s)

-- where one value of a table changed, a value under a key is the one before, or the new one

get_changed : {X : Type 0} (es : List (ℕ × X)) (i j : ℕ) (x y : X) → slice_get (values_of (change_place (λ old. x) es i)) j ≡ Some y
    → (slice_get (values_of es) j ≡ Some y) ⊎ (y ≡ x)
get_changed [] i j x y e = inl e
get_changed (v ∷ es) zero zero x y e = inr cc
get_changed (v ∷ es) zero (suc j) x y e = inl e
get_changed (v ∷ es) (suc i) zero x y e = inl e
get_changed (v ∷ es) (suc i) (suc j) x y e = get_changed es i j x y e

keys_changed : {X : Type 0} (es : List (ℕ × X)) (i : ℕ) (x : X) → keys_of (change_place (λ old. x) es i) ≡ keys_of es
keys_changed [] i x = refl
keys_changed (v ∷ es) zero x = refl
keys_changed (v ∷ es) (suc i) x = ap (λ (ks : List ℕ). v.0 ∷ ks) (keys_changed es i x)

and_then_some : {X Y : Type 0} (f : X → Option Y) (o : Option X) (x : X) (y : Y) → o ≡ Some x → f x ≡ Some y → option_and_then f o ≡ Some y
and_then_some f o x y e is = ap (option_and_then f) e ∙ is

under_changed : {X : Type 0} (es : List (ℕ × X)) (k i : ℕ) (x y : X) → value_under k (change_place (λ old. x) es i) ≡ Some y → (value_under k es ≡ Some y) ⊎ (y ≡ x)
under_changed es k i x y e =
    let at = some_and_then (slice_get (values_of (change_place (λ old. x) es i))) (place_of k (change_place (λ old. x) es i)) y e in
    let there : place_of k es ≡ Some at.0 = sym (ap (λ (ks : List ℕ). position (nat_eq k) ks) (keys_changed es i x)) ∙ at.1 in
    elim (get_changed es i at.0 x y at.2) [
      | inl before ↦ inl (and_then_some (slice_get (values_of es)) (place_of k es) at.0 y there before)
      | inr new ↦ inr new
    ]

under_change : {X : Type 0} (es : List (ℕ × X)) (k j : ℕ) (x y : X) → value_under k (change_at j (λ old. x) es) ≡ Some y → (value_under k es ≡ Some y) ⊎ (y ≡ x)
under_change es k j x y e = by (place_of j es) e
  where
    by : (o : Option ℕ) → value_under k (option_map_or (change_place (λ old. x) es) o es) ≡ Some y → (value_under k es ≡ Some y) ⊎ (y ≡ x)
    by None e = inl e
    by (Some i) e = under_changed es k i x y e

module _ (lines : List Outgoing) where
  -- what another stream sends again changed
  sound_beside : (qs : List (ℕ × RepairsRecord)) (j : ℕ) (v : RepairsRecord) (x : TxRecord) → AreCached v.cache.events → IsSound lines qs x
      → IsSound lines (change_at j (λ old. v) qs) x
  sound_beside qs j v x f h = record {
    own = h.own;
    rtx = h.rtx;
    queue = h.queue;
    again = λ q e.
        let at = some_and_then (λ (rtx : ℕ). value_under x.ssrc (change_at j (λ old. v) qs)) x.rtx q e in
        elim (under_change qs x.ssrc j v q at.2) [
          | inl before ↦ h.again q (and_then_some (λ (rtx : ℕ). value_under x.ssrc qs) x.rtx at.0 q at.1 before)
          | inr new ↦ subst (λ (w : RepairsRecord). AreCached w.cache.events) (sym new) f
        ];
  }

  all_beside : (qs : List (ℕ × RepairsRecord)) (j : ℕ) (v : RepairsRecord) (es : List (ℕ × TxRecord)) → AreCached v.cache.events → AreSound lines qs es
      → AreSound lines (change_at j (λ old. v) qs) es
  all_beside qs j v [] f h = tt
  all_beside qs j v (e ∷ es) f h = (sound_beside qs j v e.1 f h.0, all_beside qs j v es f h.1)

  with_sound : (qs : List (ℕ × RepairsRecord)) (j : ℕ) (o : Option RepairsRecord) (es : List (ℕ × TxRecord)) → ((v : RepairsRecord) → o ≡ Some v → AreCached v.cache.events)
      → AreSound lines qs es → AreSound lines (with_repairs j o qs) es
  with_sound qs j None es f h = h
  with_sound qs j (Some v) es f h = all_beside qs j v es (f v refl) h

  -- what a stream gives is right, and what it leaves is sound
  pub record IsRightPoll (cipher : CipherMeaning) (own : SrtpState) (t : Transport) (x after : TxRecord) (q : Option RepairsRecord) (o : Option PacketReceipt) : Type 0 where
    pub streams : (qs : List (ℕ × RepairsRecord)) → IsSound lines qs x → IsSound lines qs after
    pub repairs : (v : RepairsRecord) → q ≡ Some v → AreCached v.cache.events
    pub gives : (p : PacketReceipt) → o ≡ Some p → IsRightRtp cipher t.exts own lines (sealed_as cipher own p)

  module _ (again : WrittenIsReadAgain) (cipher : CipherMeaning) (own : SrtpState) where
    front_right : (qs : List (ℕ × RepairsRecord)) (t : Transport) (now : ℕ) (x : TxRecord) (p : RtpPacket) → IsSound lines qs x → next_of x.queue ≡ Some p
        → IsRightRtp cipher t.exts own lines (sealed_as cipher own (receipt_of x t now p))
    front_right qs t now x p h e =
        let f = front_fine x.ssrc x.queue p h.queue e in
        right_first again cipher own lines x t now p f.fine (subst (λ (s : ℕ). s < 2 ^ 32) (sym f.on) h.own.word)
        (subst (λ (s : ℕ). list_any (λ L. has L s) lines ≡ true) (sym f.on) h.own.stream)

    -- a repair, or none
    repairs_right : (t : Transport) (now ssrc : ℕ) (x : TxRecord) (q after : RepairsRecord) (o : Option PacketReceipt) → Repairs t now ssrc x q after o → IsOf lines ssrc
        → AreCached q.cache.events
        → AreCached after.cache.events × ((p : PacketReceipt) → o ≡ Some p → IsRightRtp cipher t.exts own lines (sealed_as cipher own p))
    repairs_right t now ssrc x q _ _ (repaired p rest next small) of h = (
      h,
      λ g e.
          let same : repair_of ssrc x t now q.state.next_seq_no p ≡ g = cc in
          subst (λ (z : PacketReceipt). IsRightRtp cipher t.exts own lines (sealed_as cipher own z)) same
          (right_repair again cipher own lines ssrc x t now q.state.next_seq_no p (next_fine now q p rest h next) small of.word of.stream),
    )
    repairs_right t now ssrc x q _ _ (none_asked next) of h = (h, λ g e. absurd cc)

    polls_right : (types : List (ℕ × TypeRow)) (t : Transport) (now : ℕ) (x : TxRecord) (qs : List (ℕ × RepairsRecord)) (before : Option RepairsRecord) (after : TxRecord)
        (q : Option RepairsRecord) (o : Option PacketReceipt) → Polls types t now x before after q o → IsSound lines qs x
        → ((v : RepairsRecord) → before ≡ Some v → AreCached v.cache.events)
        → IsRightPoll cipher own t x after q o
    polls_right types t now x qs _ _ _ _ without h f = record {
      streams = λ rs s. poll_sound lines rs x s;
      repairs = λ v e. absurd cc;
      gives = λ g e. by (next_of x.queue) g refl e;
    } where
      by : (n : Option RtpPacket) (g : PacketReceipt) → next_of x.queue ≡ n → option_map (receipt_of x t now) n ≡ Some g
          → IsRightRtp cipher t.exts own lines (sealed_as cipher own g)
      by None g is e = absurd cc
      by (Some p) g is e =
          let same : receipt_of x t now p ≡ g = cc in
          subst (λ (z : PacketReceipt). IsRightRtp cipher t.exts own lines (sealed_as cipher own z)) same (front_right qs t now x p h is)
    polls_right types t now x qs _ _ _ _ (sends_again ssrc q after receipt rtx repairs) h f =
        let r = repairs_right t now ssrc x q after (Some receipt) repairs (h.rtx ssrc rtx) (f q refl) in
        record {
          streams = λ rs s. record { own = s.own; rtx = s.rtx; queue = s.queue; again = s.again };
          repairs = λ v e. let same : after ≡ v = cc in subst (λ (w : RepairsRecord). AreCached w.cache.events) same r.0;
          gives = r.1;
        }
    polls_right types t now x qs _ _ _ _ (sends_first ssrc q between after p rtx repairs next keeps) h f =
        let r = repairs_right t now ssrc x q between None repairs (h.rtx ssrc rtx) (f q refl) in
        let k : AreCached after.cache.events = keeps_fine types now p between after keeps (front_fine x.ssrc x.queue p h.queue next).fine r.0 in
        record {
          streams = λ rs s. poll_sound lines rs x s;
          repairs = λ v e. let same : after ≡ v = cc in subst (λ (w : RepairsRecord). AreCached w.cache.events) same k;
          gives = λ g e.
              let same : receipt_of x t now p ≡ g = cc in
              subst (λ (z : PacketReceipt). IsRightRtp cipher t.exts own lines (sealed_as cipher own z)) same (front_right qs t now x p h next);
        }
    polls_right types t now x qs _ _ _ _ (nothing ssrc q after rtx repairs none) h f =
        let r = repairs_right t now ssrc x q after None repairs (h.rtx ssrc rtx) (f q refl) in
        record {
          streams = λ rs s. s;
          repairs = λ v e. let same : after ≡ v = cc in subst (λ (w : RepairsRecord). AreCached w.cache.events) same r.0;
          gives = λ g e. absurd cc;
        }

    -- the stream at a place
    pub place_right : (types : List (ℕ × TypeRow)) (t : Transport) (now place : ℕ) (r : StreamsRecord) (s : StreamsRecord) (o : Option PacketReceipt) → PollsAt types t now place r s o
        → AreSound lines r.repairs r.tx
        → AreSound lines s.repairs s.tx × ((p : PacketReceipt) → o ≡ Some p → IsRightRtp cipher t.exts own lines (sealed_as cipher own p))
    place_right types t now place r _ _ (polls_at x after q o at polls) h =
        let here = sound_at lines r.repairs r.tx place x h at in
        let p = polls_right types t now x r.repairs (repairs_of x r.repairs) after q o polls here here.again in
        let changed : AreSound lines r.repairs (change_place (λ old. after) r.tx place) = sound_change lines r.repairs r.tx place after h (p.streams r.repairs here) in
        (with_sound r.repairs x.ssrc q (change_place (λ old. after) r.tx place) p.repairs changed, p.gives)
