-- What an outgoing stream sent, read off the events of its side.
use Rattle.std.specs.Prelude.{◌≡◌, ◌<◌, ◌≤◌, ◌+◌, ◌%◌, ℕ, Bool, true, false, ◌&&◌, ◌==◌, not, if◌then◌else◌, map, filter, List, [], ◌∷◌, ◌++◌, Option, Some, None}
use Rattle.std.specs.Int.{w16, to_be_bytes}
use Rattle.std.specs.List.{flat_map, fold}
use Rattle.rtp_base.specs.declared.nack_entry.NackEntry.{NackEntry}
use Rattle.rtcp_wire.specs.declared.rtcp_fb.RtcpFb.{RtcpFb}
use Rattle.rtcp_wire.specs.declared.rtcp_fb.RtcpFb.TheVariants.{Nack}
use Rattle.rtx_core.specs.Resends.{numbers_of}
use Rattle.media_model.specs.declared.entry.Write.{Write}
use Rattle.run_model.specs.Events.{Plain, Event, wrote, ticked, called, got, sealed, sealed_items, opened, opened_items, yielded, Types, Outgoing}
use Rattle.run_model.specs.Listing.{IsIn, Leaves}
use Rattle.rtp_base.specs.Window.{is_just}

abbrev pub is_some : {A : Type 0} → Option A → Bool
is_some None = false
is_some (Some x) = true

abbrev pub number_of : Write → ℕ
number_of w = w.number

-- a write waits no more once its number was sealed
abbrev pub is_numbered : ℕ → Write → Bool
is_numbered n w = w.number == n

-- an RTP datagram is a first sending on a main SSRC; with padding it is none
abbrev pub is_sending : ℕ → ℕ → Plain → Bool
is_sending m ssrc p = (ssrc == m) && not p.padded

abbrev pub named_on : ℕ → RtcpFb → List NackEntry
named_on m (Nack media entries) = if media == m then entries else []
named_on m _ = []

-- the moment of the last step; the writes; those of which no first sending was sealed; those of which one was, in order of
-- sealing, each with its moment; what NACKs named since the last tick
pub record Sendings : Type 0 where
  pub now : ℕ
  pub writes : List Write
  pub waiting : List Write
  pub sent : List (ℕ × Write)
  pub named : List NackEntry

abbrev pub sending_step : ℕ → Sendings → Event → Sendings
sending_step m s (wrote time w) = if w.ssrc == m then record s { now = time; writes = s.writes ++ w ∷ []; waiting = s.waiting ++ w ∷ [] } else record s { now = time }
sending_step m s (ticked time) = record s { now = time; named = [] }
sending_step m s (called time) = record s { now = time }
sending_step m s (got time kind bytes) = record s { now = time }
sending_step m s (sealed ssrc n p bytes) =
    if is_sending m ssrc p
    then record s { waiting = filter (λ w. not (is_numbered n w)) s.waiting; sent = s.sent ++ map (λ w. (s.now, w)) (filter (is_numbered n) s.waiting) }
    else s
sending_step m s (opened_items index items) = record s { named = s.named ++ flat_map (named_on m) items }
sending_step m s (sealed_items index items) = s
sending_step m s (opened ssrc n p) = s
sending_step m s (yielded packet) = s

abbrev pub nothing_sent : Sendings
nothing_sent = record { now = 0; writes = []; waiting = []; sent = []; named = [] }

abbrev pub sendings : ℕ → List Event → Sendings
sendings m events = fold (sending_step m) nothing_sent events

-- the numbers that NACKs name, each PID nearest to the number that was cached last; none where nothing was
abbrev pub wanted : Option ℕ → List NackEntry → List ℕ
wanted last entries = numbers_of last entries

-- a write that is kept for repairs once it is sent
abbrev pub is_cached : Types → Outgoing → Write → Bool
is_cached T L w = w.nackable && (is_some (T.rtx_of w.pt) && is_some L.rtx)

abbrev pub cached : Types → Outgoing → List (ℕ × Write) → List (ℕ × Write)
cached T L sent = filter (λ x. is_cached T L x.1) sent

-- numbers rise
abbrev pub RiseFrom : ℕ → List (ℕ × Write) → Type 0
RiseFrom low [] = Unit {0}
RiseFrom low (x ∷ xs) = (low ≤ x.1.number) × RiseFrom (x.1.number + 1) xs

-- the number after the last, and its moment
abbrev pub next_from : ℕ → List (ℕ × Write) → ℕ
next_from low [] = low
next_from low (x ∷ xs) = next_from (x.1.number + 1) xs

abbrev pub latest_from : ℕ → List (ℕ × Write) → ℕ
latest_from t [] = t
latest_from t (x ∷ xs) = latest_from x.0 xs

-- the number of the last
abbrev pub last_number : List (ℕ × Write) → Option ℕ
last_number [] = None
last_number (x ∷ []) = Some x.1.number
last_number (x ∷ y ∷ xs) = last_number (y ∷ xs)

-- a number that has to be held of those cached: the numbers rise, it is less than the cache's packets below the last one, and
-- was sent at most the cache's age before it
pub record Kept (T : Types) (L : Outgoing) (sent : List (ℕ × Write)) (n : ℕ) : Type 0 where
  pub moment : ℕ
  pub write : Write
  pub there : IsIn (moment, write) (cached T L sent)
  pub number : write.number ≡ n
  pub rise : RiseFrom 0 (cached T L sent)
  pub near : next_from 0 (cached T L sent) ≤ n + L.packets
  pub young : latest_from 0 (cached T L sent) ≤ moment + L.age
  pub aging : 0 < L.age

-- the low 16 bits of a number, the high byte first
abbrev pub two_bytes : ℕ → List ℕ
two_bytes n = to_be_bytes w16 (n % 65536)

-- the plain datagram of a write, and of its repair under a type
abbrev pub sending_of : Write → Plain
sending_of w = record { pt = w.pt; padded = false; marker = w.marker; time = w.rtp_time; csrc = w.csrc; payload = w.payload }

abbrev pub repair_of : ℕ → Write → Plain
repair_of pt w = record { pt = pt; padded = false; marker = w.marker; time = w.rtp_time; csrc = w.csrc; payload = two_bytes w.number ++ w.payload }

-- a repair carries a write
pub record Carries (T : Types) (p : Plain) (w : Write) : Type 0 where
  pub type : T.rtx_of w.pt ≡ Some p.pt
  pub marker : p.marker ≡ w.marker
  pub time : p.time ≡ w.rtp_time
  pub csrc : p.csrc ≡ w.csrc
  pub payload : p.payload ≡ two_bytes w.number ++ w.payload

-- the writes on a main SSRC, the first sendings and the repairs, each with its number, in order
abbrev pub write_on : ℕ → Event → List Write
write_on m (wrote time w) = if w.ssrc == m then w ∷ [] else []
write_on m _ = []

abbrev pub writes_on : ℕ → List Event → List Write
writes_on m events = flat_map (write_on m) events

abbrev pub sending_on : ℕ → Event → List (ℕ × Plain)
sending_on m (sealed ssrc n p bytes) = if is_sending m ssrc p then (n, p) ∷ [] else []
sending_on m _ = []

abbrev pub first_sendings : ℕ → List Event → List (ℕ × Plain)
first_sendings m events = flat_map (sending_on m) events

abbrev pub is_repair_on : Outgoing → ℕ → Plain → Bool
is_repair_on L ssrc p = is_just ssrc L.rtx && not p.padded

abbrev pub repair_on : Outgoing → Event → List (ℕ × Plain)
repair_on L (sealed ssrc n p bytes) = if is_repair_on L ssrc p then (n, p) ∷ [] else []
repair_on L _ = []

abbrev pub repairs : Outgoing → List Event → List (ℕ × Plain)
repairs L events = flat_map (repair_on L) events

-- these repairs, in order, carry writes of these numbers
pub data Carry (T : Types) (sent : List (ℕ × Write)) : List (ℕ × Plain) → List ℕ → Type 0 where
  nothing : Carry T sent [] []
  one : {ps : List (ℕ × Plain)} {ns : List ℕ} → (i n : ℕ) (p : Plain) (x : ℕ × Write) → IsIn x sent → x.1.number ≡ n → Carries T p x.1 → Carry T sent ps ns
      → Carry T sent ((i, p) ∷ ps) (n ∷ ns)

-- a number is that of the greatest of these, or of one behind it
pub record IsFromGreatest (xs : List (ℕ × Write)) (n : ℕ) : Type 0 where
  pub before : List (ℕ × Write)
  pub top : ℕ × Write
  pub after : List (ℕ × Write)
  pub split : xs ≡ before ++ top ∷ after
  pub greatest : (x : ℕ × Write) → IsIn x xs → x.1.number ≤ top.1.number
  pub there : (x : ℕ × Write) × IsIn x (top ∷ after) × (x.1.number ≡ n)

-- the number that the store was given last is one that is cached; where anything is kept, it is that of the greatest that is
-- cached or of one that was sent after it, and there is none only where nothing is cached; where numbers rise it is the greatest
pub record IsLast (T : Types) (L : Outgoing) (sent : List (ℕ × Write)) (last : Option ℕ) : Type 0 where
  pub one : (n : ℕ) → last ≡ Some n → (x : ℕ × Write) × IsIn x (cached T L sent) × (x.1.number ≡ n)
  pub late : 0 < L.packets → 0 < L.age → (n : ℕ) → last ≡ Some n → IsFromGreatest (cached T L sent) n
  pub none : 0 < L.packets → 0 < L.age → last ≡ None → cached T L sent ≡ []
  pub greatest : RiseFrom 0 (cached T L sent) → 0 < L.packets → 0 < L.age → last ≡ last_number (cached T L sent)

-- what a tick seals of a stream: a first sending of each write that waits, in order; and repairs that carry, in order, some of
-- the numbers wanted, but for a capped stream each one that has to be held
pub record Answers (T : Types) (L : Outgoing) (Capped : Type 0) (s : Sendings) (new : List Event) : Type 0 where
  pub sendings : first_sendings L.ssrc new ≡ map (λ w. (w.number, sending_of w)) s.waiting
  pub last : Option ℕ
  pub is_last : IsLast T L s.sent last
  pub answered : List ℕ
  pub carry : Carry T (cached T L s.sent) (repairs L new) answered
  pub keeps : Leaves (λ n. (Capped → ⊥) × Kept T L s.sent n) answered (wanted last s.named)

-- what a tick that is cut off sealed of a stream: first sendings of the first writes that wait, in order; and repairs that
-- carry, in order, some of the numbers wanted
pub record AnswersPartly (T : Types) (L : Outgoing) (s : Sendings) (new : List Event) : Type 0 where
  pub gone : List Write
  pub left : List Write
  pub waiting : s.waiting ≡ gone ++ left
  pub sendings : first_sendings L.ssrc new ≡ map (λ w. (w.number, sending_of w)) gone
  pub last : Option ℕ
  pub is_last : IsLast T L s.sent last
  pub answered : List ℕ
  pub carry : Carry T (cached T L s.sent) (repairs L new) answered
  pub among : Leaves (λ n. ⊥) answered (wanted last s.named)
