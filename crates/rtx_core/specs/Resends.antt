-- What a stream sends again: the record of it, and what each call makes of that.
use Rattle.std.specs.Prelude.{◌≡◌, ℕ, ◌+◌, ◌*◌, ◌<◌, Bool, true, false, ◌==◌, if◌then◌else◌, Option, Some, None, is_some, List, [], ◌∷◌, ◌++◌, length}
use Rattle.std.specs.List.{flat_map}
use Rattle.std.specs.Option.{option_map, option_map_or, option_to_list}
use Rattle.rtp_base.specs.NackEntry.{named_by}
use Rattle.rtp_base.specs.declared.nack_entry.NackEntry.{NackEntry}
use Rattle.rtp_base.specs.declared.number.TheConstants.{NUMBER_LIMIT}
use Rattle.resend_core.specs.ResendStore.{Event, pushed, evicted, Past, with_event, emptied, size_of, MustStore, HeldAs}
use Rattle.resend_core.specs.RtxCache.{made_for, StandsFor as CacheStandsFor}
use Rattle.resend_core.specs.declared.rtx_cache.RtxCache.{RtxCache}
use Rattle.rtx_core.specs.Ratio.{CapRecord, uncounted, after_reading, with_sent, with_resent, with_hundredths}
use Rattle.rtx_core.specs.declared.resend.Resend.{Resend}
use Rattle.rtx_core.specs.declared.resend_queue.TheConstants.{DEFAULT_RTX_CACHE_PACKETS, DEFAULT_RTX_CACHE_DURATION, DEFAULT_RTX_RATIO_CAP}

-- all but the packets that are kept: those that were asked for, in order; the number of the next repair; and the cap, if
-- there is one
pub record ResendState : Type 0 where
  pub resends : List Resend
  pub next_seq_no : ℕ
  pub cap : Option CapRecord

-- with the cache as its callers see it
pub record ResendView (C : Type 0) : Type 0 where
  pub state : ResendState
  pub cache : C

-- with what happened to the cache
abbrev pub ResendRecord : Type 0 → Type 0
ResendRecord P = ResendView (Past P)

-- every number under which a packet was cached has 48 bits
abbrev pub AreNumbers : {P : Type 0} → List (Event P) → Type 0
AreNumbers [] = Unit {0}
AreNumbers (pushed n t p stored ∷ es) = (n < NUMBER_LIMIT) × AreNumbers es
AreNumbers (evicted t ∷ es) = AreNumbers es

pub record StandsFor {P S : Type 0} (stands_for : S → Past P → Type 0) (size : P → ℕ) (s : ResendView (RtxCache P S)) (r : ResendRecord P) : Type 0 where
  pub state : s.state ≡ r.state
  pub cache : CacheStandsFor stands_for size s.cache r.cache
  pub numbers : AreNumbers r.cache.events

-- nothing was sent; repairs begin with a number
abbrev pub created : {P : Type 0} → ℕ → ResendRecord P
created first = record {
  state = record { resends = []; next_seq_no = first; cap = Some (uncounted DEFAULT_RTX_RATIO_CAP) };
  cache = made_for DEFAULT_RTX_CACHE_PACKETS (DEFAULT_RTX_CACHE_DURATION * 1000000000);
}

-- all begins anew with a first number of repairs: nothing was sent, nothing is kept and nothing asked for. The limits stay
abbrev pub begun_anew : {P : Type 0} → ℕ → ResendRecord P → ResendRecord P
begun_anew first r = record {
  state = record { resends = []; next_seq_no = first; cap = option_map (λ c. uncounted c.hundredths) r.state.cap };
  cache = made_for (size_of r.cache) r.cache.age;
}

-- another cap, or none; what was sent counts on where there was one
abbrev pub recapped : Option ℕ → Option CapRecord → Option CapRecord
recapped None old = None
recapped (Some hundredths) None = Some (uncounted hundredths)
recapped (Some hundredths) (Some c) = Some (with_hundredths hundredths c)

-- another, empty cache, and another cap; what was asked for stays
abbrev pub recached : {P : Type 0} → ℕ → ℕ → Option ℕ → ResendRecord P → ResendRecord P
recached packets age cap r = record {
  state = record r.state { cap = recapped cap r.state.cap };
  cache = made_for packets age;
}

-- a packet was sent for the first time
abbrev pub after_first : ℕ → ℕ → ResendState → ResendState
after_first now bytes s = record s { cap = option_map (with_sent now bytes) s.cap }

-- and it was cached: it was stored where it must be, and what is too old went
pub data Caches {P : Type 0} (size number : P → ℕ) (now : ℕ) (p : P) (r : ResendRecord P) : ResendRecord P → Type 0 where
  cached : (stored : Bool) → (MustStore r.cache (number p) now → stored ≡ true)
      → Caches size number now p r (record {
        state = after_first now (size p) r.state;
        cache = with_event (with_event r.cache (pushed (number p) now p stored)) (evicted now);
      })

-- the numbers that entries name, by the number that was cached last; none where nothing was
abbrev pub numbers_of : Option ℕ → List NackEntry → List ℕ
numbers_of None entries = []
numbers_of (Some last) entries = flat_map (named_by (Some last)) entries

abbrev pub resend_of : {P : Type 0} → (P → ℕ) → ℕ → ℕ → P → Resend
resend_of size now n p = record { seq_no = n; queued_at = now; payload_size = size p }

-- the resends of these numbers, as far as their packets are held
abbrev pub resends_of : {P : Type 0} → (P → ℕ) → ℕ → (ℕ → Option P) → List ℕ → List Resend
resends_of size now held numbers = flat_map (λ n. option_to_list (option_map (resend_of size now n) (held n))) numbers

-- they are asked for behind the others
abbrev pub asked_for : List Resend → ResendState → ResendState
asked_for more s = record s { resends = s.resends ++ more }

-- the first resend whose packet is held: the packet, and the resends behind it
abbrev pub first_held : {P : Type 0} → (ℕ → Option P) → List Resend → Option (P × List Resend)
first_held held [] = None
first_held held (r ∷ rs) = option_map_or (λ p. Some (p, rs)) (held r.seq_no) (first_held held rs)

-- the cap is met at a moment
abbrev pub is_capped : ℕ → Option CapRecord → Bool
is_capped now None = false
is_capped now (Some c) = (after_reading now c).met

-- nothing while the cap is met
abbrev pub unless_capped : {P : Type 0} → ℕ → ResendState → Option (P × List Resend) → Option (P × List Resend)
unless_capped now s found = if is_capped now s.cap then None else found

-- what is sent again next
abbrev pub next_of : {P : Type 0} → ℕ → (ℕ → Option P) → ResendState → Option (P × List Resend)
next_of now held s = unless_capped now s (first_held held s.resends)

-- the cap is read where something is asked for
abbrev pub cap_after : ℕ → ResendState → Option CapRecord
cap_after now s = if length s.resends == 0 then s.cap else option_map (after_reading now) s.cap

-- that was sent, under the next number; where it is nothing, nothing is asked for any more
abbrev pub after_next : {P : Type 0} → ℕ → (P → ℕ) → Option (P × List Resend) → ResendState → ResendState
after_next now size None s = record s { resends = []; cap = cap_after now s }
after_next now size (Some found) s = record {
  resends = found.1;
  next_seq_no = s.next_seq_no + 1;
  cap = option_map (with_resent now (size found.0)) (cap_after now s);
}

-- the number under which it is sent
abbrev pub number_of : {P : Type 0} → Option (P × List Resend) → ResendState → Option ℕ
number_of None s = None
number_of (Some found) s = Some s.next_seq_no

-- something is to be sent again, and no number is left for it
abbrev pub IsExhausted : {P : Type 0} → Option (P × List Resend) → ResendState → Type 0
IsExhausted found s = (is_some found ≡ true) × (s.next_seq_no ≡ NUMBER_LIMIT)

-- the stream was closed: nothing is kept, and nothing asked for
abbrev pub closed : {P : Type 0} → ResendRecord P → ResendRecord P
closed r = record { state = record r.state { resends = [] }; cache = emptied r.cache }

-- by what happened to the cache: the resends of numbers, as far as they are held
pub data Asks {P : Type 0} (size : P → ℕ) (now : ℕ) (past : Past P) : List ℕ → List Resend → Type 0 where
  none : Asks size now past [] []
  gone : (n : ℕ) (ns : List ℕ) (rs : List Resend) → HeldAs past n None → Asks size now past ns rs → Asks size now past (n ∷ ns) rs
  held : (n : ℕ) (ns : List ℕ) (rs : List Resend) (p : P) → HeldAs past n (Some p) → Asks size now past ns rs → Asks size now past (n ∷ ns) (resend_of size now n p ∷ rs)

-- and the first of resends that is held
pub data FirstHeld {P : Type 0} (past : Past P) : List Resend → Option (P × List Resend) → Type 0 where
  none_held : FirstHeld past [] None
  passed : (r : Resend) (rs : List Resend) (found : Option (P × List Resend)) → HeldAs past r.seq_no None → FirstHeld past rs found → FirstHeld past (r ∷ rs) found
  found : (r : Resend) (rs : List Resend) (p : P) → HeldAs past r.seq_no (Some p) → FirstHeld past (r ∷ rs) (Some (p, rs))

-- so this is what is sent again next, by what happened to the cache
abbrev pub IsNext : {P : Type 0} → ℕ → ResendRecord P → Option (P × List Resend) → Type 0
IsNext {P} now r next = (found : Option (P × List Resend)) × FirstHeld r.cache r.state.resends found × (next ≡ unless_capped now r.state found)
