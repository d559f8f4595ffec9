-- The loops over chunks that are read, and those over symbols.
use Rattle.std.proofs.Common.{◌≡◌, ℕ, zero, suc, ◌+◌, ◌-◌, ◌/◌, ◌%◌, ◌<◌, ◌≤◌, true, false, ltb, min, List, [], ◌∷◌, ◌++◌, length, get_or, take, drop, replicate, Option, Some, None, refl, sym, ap, subst, ◌∙◌, append_assoc, arith, length-drop}
use Rattle.std.specs.Option.{option_map, option_and_then}
use Rattle.std.proofs.lemmas.List.{take_more, take_min, take-replicate, take-append-drop, length-replicate}
use Rattle.std.proofs.lemmas.Bool.{le-ltb, lt-ltb}
use Rattle.twcc_core.specs.declared.status.PacketStatus.{PacketStatus}
use Rattle.rtp_base.specs.Wire.{half_at}
use Rattle.twcc_core.specs.Statuses.{status_at, statuses_of}
use Rattle.twcc_core.specs.Chunks.{one_bit_symbols, two_bit_symbols, chunk_symbols, with_symbols, symbols_within, symbols_of}
use Rattle.twcc_core.specs.Reading.{with_front, Says}

-- ---- symbols

rows_regroup : (now : List PacketStatus) (s : PacketStatus) (o : Option (List PacketStatus)) → with_front now (option_map (λ later. s ∷ later) o) ≡ with_front (now ++ s ∷ []) o
rows_regroup now s None = refl
rows_regroup now s (Some x) = ap (λ (t : List PacketStatus). Some t) (sym (append_assoc now (s ∷ []) x))

says_one : (front : List PacketStatus) (symbol : ℕ) (bytes : List ℕ) (s : PacketStatus) (after : List ℕ) → Some (s, after) ≡ status_at symbol bytes → Says front (symbol ∷ []) bytes (front ++ s ∷ []) (Some after)
says_one front symbol bytes s after e = record { so_far = λ later. rw (← e) (rows_regroup front s (statuses_of later after)) }

says_more : (front : List PacketStatus) (xs ys bytes : List ℕ) (now new : List PacketStatus) (rest : List ℕ) (after : Option (List ℕ)) → Says front xs bytes now (Some rest) → Says now ys rest new after → Says front (xs ++ ys) bytes new after
says_more front xs ys bytes now new rest after p q = record { so_far = λ later. rw (append_assoc xs ys later) (p.so_far (ys ++ later) ∙ q.so_far later) }

ends_there : (front : List PacketStatus) (symbol : ℕ) (symbols bytes : List ℕ) (rows : List PacketStatus) → None ≡ status_at symbol bytes → Says front (symbol ∷ symbols) bytes rows None
ends_there front symbol symbols bytes rows e = record { so_far = λ later. rw (← e) refl }

pub says_next : (front : List PacketStatus) (symbols : List ℕ) (i symbol : ℕ) (bytes : List ℕ) (now new : List PacketStatus) (s : PacketStatus) (rest after : List ℕ) → i < length symbols → symbol ≡ get_or symbols i 0
    → Some (s, after) ≡ status_at symbol rest → new ≡ now ++ s ∷ []
    → Says front (take i symbols) bytes now (Some rest) → Says front (take (i + 1) symbols) bytes new (Some after)
says_next front symbols i symbol bytes now new s rest after lt is e n h =
    rw (take_more symbols i 0 lt, ← is, n) (says_more front (take i symbols) (symbol ∷ []) bytes now (now ++ s ∷ []) rest (Some after) h (says_one now symbol rest s after e))

first_and_rest : (xs : List ℕ) (i : ℕ) → i < length xs → drop i xs ≡ get_or xs i 0 ∷ drop (i + 1) xs
first_and_rest [] i lt = absurd (omega (arith, lt))
first_and_rest (x ∷ xs) zero lt = refl
first_and_rest (x ∷ xs) (suc i) lt = let k : suc i + 1 ≡ suc (i + 1) = omega arith in rw k (first_and_rest xs i (omega (arith, lt)))

pub says_none : (front : List PacketStatus) (symbols : List ℕ) (i symbol : ℕ) (bytes : List ℕ) (now new : List PacketStatus) (rest : List ℕ) → i < length symbols → symbol ≡ get_or symbols i 0
    → None ≡ status_at symbol rest
    → Says front (take i symbols) bytes now (Some rest) → Says front symbols bytes new None
says_none front symbols i symbol bytes now new rest lt is e h =
    let split : take i symbols ++ symbol ∷ drop (i + 1) symbols ≡ symbols = rw is (ap (λ (t : List ℕ). take i symbols ++ t) (sym (first_and_rest symbols i lt)) ∙ take-append-drop i symbols) in
    subst (λ (xs : List ℕ). Says front xs bytes new None) split (says_more front (take i symbols) (symbol ∷ drop (i + 1) symbols) bytes now new rest None h (ends_there now symbol (drop (i + 1) symbols) rest new e))

-- the first symbols are read
pub record IsRead (front : List PacketStatus) (symbols : List ℕ) (i : ℕ) (bytes : List ℕ) (now : List PacketStatus) (rest : List ℕ) : Type 0 where
  pub says : Says front (take i symbols) bytes now (Some rest)

pub read_more : (front : List PacketStatus) (symbols : List ℕ) (i symbol : ℕ) (bytes : List ℕ) (now new : List PacketStatus) (s : PacketStatus) (rest after : List ℕ) → i < length symbols → symbol ≡ get_or symbols i 0
    → Some (s, after) ≡ status_at symbol rest → new ≡ now ++ s ∷ []
    → IsRead front symbols i bytes now rest → IsRead front symbols (i + 1) bytes new after
read_more front symbols i symbol bytes now new s rest after lt is e n h = record { says = says_next front symbols i symbol bytes now new s rest after lt is e n h.says }

pub read_fails : (front : List PacketStatus) (symbols : List ℕ) (i symbol : ℕ) (bytes : List ℕ) (now : List PacketStatus) (rest : List ℕ) → i < length symbols → symbol ≡ get_or symbols i 0
    → None ≡ status_at symbol rest → IsRead front symbols i bytes now rest → Says front symbols bytes now None
read_fails front symbols i symbol bytes now rest lt is e h = says_none front symbols i symbol bytes now now rest lt is e h.says

-- ---- a symbol that comes again and again

get_or_replicate : (count i symbol : ℕ) → i < count → get_or (replicate count symbol) i 0 ≡ symbol
get_or_replicate zero i symbol lt = absurd (omega (arith, lt))
get_or_replicate (suc count) zero symbol lt = refl
get_or_replicate (suc count) (suc i) symbol lt = get_or_replicate count i symbol (omega (arith, lt))

-- a symbol was read so often
pub record IsRun (front : List PacketStatus) (symbol count i : ℕ) (bytes : List ℕ) (now : List PacketStatus) (rest : List ℕ) : Type 0 where
  pub read : IsRead front (replicate count symbol) i bytes now rest

pub run_more : (front : List PacketStatus) (symbol count i : ℕ) (bytes : List ℕ) (now new : List PacketStatus) (s : PacketStatus) (rest after : List ℕ) → i < count
    → Some (s, after) ≡ status_at symbol rest → new ≡ now ++ s ∷ []
    → IsRun front symbol count i bytes now rest → IsRun front symbol count (i + 1) bytes new after
run_more front symbol count i bytes now new s rest after lt e n h =
    record { read = read_more front (replicate count symbol) i symbol bytes now new s rest after (omega (arith, lt, length-replicate count symbol)) (sym (get_or_replicate count i symbol lt)) e n h.read }

pub run_fails : (front : List PacketStatus) (symbol count i : ℕ) (bytes : List ℕ) (now : List PacketStatus) (rest : List ℕ) → i < count
    → None ≡ status_at symbol rest → IsRun front symbol count i bytes now rest → Says front (replicate count symbol) bytes now None
run_fails front symbol count i bytes now rest lt e h =
    read_fails front (replicate count symbol) i symbol bytes now rest (omega (arith, lt, length-replicate count symbol)) (sym (get_or_replicate count i symbol lt)) e h.read

-- ---- what a chunk tells

pub run_taken : (chunk most : ℕ) → chunk < 32768 → take most (chunk_symbols chunk) ≡ replicate (min (chunk % 8192) most) (chunk / 8192)
unfolding chunk_symbols
run_taken chunk most low =
    let a : ltb chunk 32768 ≡ true = lt-ltb _ _ low in
    let run : List ℕ = replicate (chunk % 8192) (chunk / 8192) in
    let len : length run ≡ chunk % 8192 = length-replicate (chunk % 8192) (chunk / 8192) in
    rw a (sym (take_min most run) ∙ rw len (take-replicate (min most (chunk % 8192)) (chunk % 8192) (chunk / 8192) (omega arith) ∙ ap (λ (n : ℕ). replicate n (chunk / 8192)) (omega arith)))

-- of a vector no more than 14 are taken, or 7
pub bits_taken : (chunk most : ℕ) → 32768 ≤ chunk → chunk < 49152 → take most (chunk_symbols chunk) ≡ take (min most 14) (one_bit_symbols chunk)
unfolding chunk_symbols
bits_taken chunk most low high =
    let a : ltb chunk 32768 ≡ false = le-ltb _ _ low in
    let b : ltb chunk 49152 ≡ true = lt-ltb _ _ high in
    rw (a, b) (sym (take_min most (one_bit_symbols chunk)))

pub pairs_taken : (chunk most : ℕ) → 49152 ≤ chunk → take most (chunk_symbols chunk) ≡ take (min most 7) (two_bit_symbols chunk)
unfolding chunk_symbols
pairs_taken chunk most high =
    let a : ltb chunk 32768 ≡ false = le-ltb _ _ (omega (arith, high)) in
    let b : ltb chunk 49152 ≡ false = le-ltb _ _ high in
    rw (a, b) (sym (take_min most (two_bit_symbols chunk)))

-- ---- chunks

pub some_left : (n count : ℕ) (bytes : List ℕ) → 0 < count
    → symbols_within (suc n) count bytes ≡ option_map (with_symbols (take count (chunk_symbols (half_at bytes 0)))) (symbols_within n (count - length (chunk_symbols (half_at bytes 0))) (drop 2 bytes))
some_left n zero bytes lt = absurd (omega arith)
some_left n (suc count) bytes lt = refl

pub none_left : (n : ℕ) (bytes : List ℕ) → symbols_within n 0 bytes ≡ Some ([], bytes)
none_left zero bytes = refl
none_left (suc n) bytes = refl

-- where the bytes are whole the first of them tells symbols
one_more : (left left' : ℕ) (rest after : List ℕ) → 0 < left → 2 ≤ length rest → left' ≡ left - length (chunk_symbols (half_at rest 0)) → after ≡ drop 2 rest
    → symbols_within (length rest / 2) left rest ≡ option_map (with_symbols (take left (chunk_symbols (half_at rest 0)))) (symbols_within (length after / 2) left' after)
one_more left left' rest after lt long e d =
    let n : length rest / 2 ≡ suc (length (drop 2 rest) / 2) = omega (arith, length-drop 2 rest) in
    rw (e, d, n) (some_left (length (drop 2 rest) / 2) left rest lt)

-- what follows the chunks
abbrev behind : Option (List ℕ × List ℕ) → Option (List ℕ)
behind o = option_map (λ told. told.1) o

pub record IsPassed (left : ℕ) (rest : List ℕ) (all : Option (List ℕ × List ℕ)) : Type 0 where
  pub same : option_map (λ told. told.1) (symbols_within (length rest / 2) left rest) ≡ option_map (λ told. told.1) all

pub passed_starts : (count : ℕ) (bytes : List ℕ) → IsPassed count bytes (symbols_of count bytes)
unfolding symbols_of
passed_starts count bytes = record { same = refl }

still_behind : (symbols : List ℕ) (o : Option (List ℕ × List ℕ)) → behind (option_map (with_symbols symbols) o) ≡ behind o
still_behind symbols None = refl
still_behind symbols (Some x) = refl

pub passed_more : (left left' : ℕ) (rest after : List ℕ) (all : Option (List ℕ × List ℕ)) → 0 < left → 2 ≤ length rest → left' ≡ left - length (chunk_symbols (half_at rest 0)) → after ≡ drop 2 rest
    → IsPassed left rest all → IsPassed left' after all
passed_more left left' rest after all lt long e d h =
    record { same = sym (still_behind (take left (chunk_symbols (half_at rest 0))) (symbols_within (length after / 2) left' after)) ∙ sym (ap behind (one_more left left' rest after lt long e d)) ∙ h.same }

-- what the symbols of chunks say
abbrev pub said_by : List ℕ → Option (List ℕ × List ℕ) → Option (List PacketStatus)
said_by deltas o = option_and_then (λ told. statuses_of told.0 deltas) o

pub record IsSaid (now : List PacketStatus) (left : ℕ) (rest deltas : List ℕ) (all : Option (List PacketStatus)) : Type 0 where
  pub same : with_front now (said_by deltas (symbols_within (length rest / 2) left rest)) ≡ all

front_none : (o : Option (List PacketStatus)) → with_front [] o ≡ o
front_none None = refl
front_none (Some x) = refl

pub said_starts : (count : ℕ) (bytes deltas : List ℕ) → IsSaid [] count bytes deltas (said_by deltas (symbols_of count bytes))
unfolding symbols_of
said_starts count bytes deltas = record { same = front_none (said_by deltas (symbols_within (length bytes / 2) count bytes)) }

say_on : (now new : List PacketStatus) (symbols deltas rest : List ℕ) (o : Option (List ℕ × List ℕ)) → Says now symbols deltas new (Some rest)
    → with_front now (said_by deltas (option_map (with_symbols symbols) o)) ≡ with_front new (said_by rest o)
say_on now new symbols deltas rest None h = refl
say_on now new symbols deltas rest (Some x) h = h.so_far x.0

pub said_more : (now new : List PacketStatus) (left left' : ℕ) (rest after deltas later : List ℕ) (all : Option (List PacketStatus)) → 0 < left → 2 ≤ length rest
    → Says now (take left (chunk_symbols (half_at rest 0))) deltas new (Some later) → left' ≡ left - length (chunk_symbols (half_at rest 0)) → after ≡ drop 2 rest
    → IsSaid now left rest deltas all → IsSaid new left' after later all
said_more now new left left' rest after deltas later all lt long says e d h =
    let symbols : List ℕ = take left (chunk_symbols (half_at rest 0)) in
    record { same = sym (say_on now new symbols deltas later (symbols_within (length after / 2) left' after) says) ∙ sym (ap (λ (o : Option (List ℕ × List ℕ)). with_front now (said_by deltas o)) (one_more left left' rest after lt long e d)) ∙ h.same }
