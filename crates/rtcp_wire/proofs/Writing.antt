-- The loop that writes items while they fit.
use Rattle.std.proofs.Common.{◌≡◌, ℕ, suc, ◌+◌, ◌-◌, ◌<◌, ◌≤◌, List, [], ◌∷◌, ◌++◌, length, get_or, take, drop, Option, Some, None, refl, sym, ap, ◌∙◌, append_assoc, arith, length-append}
use Rattle.std.specs.List.{flat_map, AllByRecursion}
use Rattle.std.proofs.lemmas.List.{append-nil, take_at, drop_at, take_all, drop-drop}
use Rattle.std.proofs.lemmas.List.Concat.{flat_map-append}
use Rattle.std.proofs.lemmas.Bool.{le-leb, lt-leb}
use Rattle.rtcp_wire.specs.declared.packet.Rtcp.{Rtcp}
use Rattle.rtp_base.specs.Wire.{Puts}
use Rattle.rtcp_wire.specs.Wire.{LeavesRest}
use Rattle.rtcp_wire.specs.Texts.{IsWritable, text_of, fitting}

-- room of a text's length, where it was put
pub is_filled : (old text new : List ℕ) (end : Option ℕ) → length old ≡ length text → length new ≡ length old → Puts old 0 text new end → new ≡ text
is_filled old text new None len same p = absurd (omega (arith, len, p))
is_filled old text new (Some end) len same p = sym (take_all end new (omega (arith, len, same, p.0))) ∙ p.1

-- the items written so far are the first of all, and how many of the others fit is still to come
pub record IsWritten (all now : List Rtcp) (old out : List ℕ) (at left : ℕ) : Type 0 where
  pub done : List Rtcp
  pub split : all ≡ done ++ now
  pub bytes : take at out ≡ flat_map text_of done
  pub behind : drop at out ≡ drop at old
  pub ends : at ≡ length (flat_map text_of done)
  pub fits : fitting (length old) all ≡ length done + fitting (length old - at) now
  pub same : length out ≡ length old
  pub within : at ≤ length old
  pub writable : AllByRecursion IsWritable now
  pub count : length now ≡ left

pub first_and_rest : (xs : List Rtcp) (x : Rtcp) → 0 < length xs → x ≡ get_or xs 0 x → xs ≡ x ∷ drop 1 xs
first_and_rest [] x lt e = absurd (omega arith)
first_and_rest (y ∷ ys) x lt e = let same : y ≡ x = sym e in rw same refl

first_fits : (room : ℕ) (x : Rtcp) (xs : List Rtcp) → length (text_of x) ≤ room → fitting room (x ∷ xs) ≡ suc (fitting (room - length (text_of x)) xs)
first_fits room x xs le = rw (le-leb (length (text_of x)) room le) refl

first_fails : (room : ℕ) (x : Rtcp) (xs : List Rtcp) → room < length (text_of x) → fitting room (x ∷ xs) ≡ 0
first_fails room x xs lt = rw (lt-leb (length (text_of x)) room lt) refl

pub write_more : (all now new : List Rtcp) (x : Rtcp) (old out out' : List ℕ) (at end left : ℕ) → now ≡ x ∷ new → Puts out at (text_of x) out' (Some end) → LeavesRest out out' (Some end) → length out' ≡ length out
    → IsWritten all now old out at left → IsWritten all new old out' end (left - 1)
write_more all now new x old out out' at end left e p b same h =
    let text : flat_map text_of (h.done ++ x ∷ []) ≡ flat_map text_of h.done ++ text_of x = flat_map-append text_of h.done (x ∷ []) ∙ ap (λ (t : List ℕ). flat_map text_of h.done ++ t) (append-nil (text_of x)) in
    let fit : fitting (length old - at) now ≡ suc (fitting (length old - at - length (text_of x)) new) = rw e (first_fits (length old - at) x new (omega (arith, p.0, p.2, h.same, h.within, same))) in
    let room : length old - at - length (text_of x) ≡ length old - end = omega (arith, p.0) in
    let writable = rw e at h.writable in
    let count = rw e at h.count in
    record {
      done = h.done ++ x ∷ [];
      split = h.split ∙ ap (λ (t : List Rtcp). h.done ++ t) e ∙ sym (append_assoc h.done (x ∷ []) new);
      bytes = p.1 ∙ ap (λ (t : List ℕ). t ++ text_of x) h.bytes ∙ sym text;
      behind = b ∙ rw p.0 (sym (drop-drop (length (text_of x)) at out) ∙ ap (drop (length (text_of x))) h.behind ∙ drop-drop (length (text_of x)) at old);
      ends = p.0 ∙ rw text (omega (arith, h.ends, length-append (flat_map text_of h.done) (text_of x)));
      fits = h.fits ∙ rw (fit, room) (omega (arith, length-append h.done (x ∷ [])));
      same = same ∙ h.same;
      within = omega (arith, p.2, same, h.same);
      writable = writable.1;
      count = omega (arith, count);
    }

-- the items that fit were written, and the others are left
pub record IsDone (all now : List Rtcp) (old out : List ℕ) (at : ℕ) : Type 0 where
  pub count : at ≡ length (flat_map text_of (take (fitting (length old) all) all))
  pub bytes : take at out ≡ flat_map text_of (take (fitting (length old) all) all)
  pub behind : drop at out ≡ drop at old
  pub left : now ≡ drop (fitting (length old) all) all

pub is_done : (all now : List Rtcp) (old out : List ℕ) (at left : ℕ) → fitting (length old - at) now ≡ 0 → IsWritten all now old out at left → IsDone all now old out at
is_done all now old out at left none h =
    let n : fitting (length old) all ≡ length h.done = omega (arith, h.fits, none) in
    let front : take (fitting (length old) all) all ≡ h.done = ap (λ (k : ℕ). take k all) n ∙ ap (take (length h.done)) h.split ∙ take_at h.done now (length h.done) refl in
    let back : drop (fitting (length old) all) all ≡ now = ap (λ (k : ℕ). drop k all) n ∙ ap (drop (length h.done)) h.split ∙ drop_at h.done now (length h.done) refl in
    record { count = rw front h.ends; bytes = rw front h.bytes; behind = h.behind; left = sym back }

pub write_stops : (all now new : List Rtcp) (x : Rtcp) (old out out' : List ℕ) (at left : ℕ) → now ≡ x ∷ new → Puts out at (text_of x) out' None
    → IsWritten all now old out at left → fitting (length old - at) now ≡ 0
write_stops all now new x old out out' at left e p h =
    rw e (first_fails (length old - at) x new (omega (arith, p, h.same, h.within)))
