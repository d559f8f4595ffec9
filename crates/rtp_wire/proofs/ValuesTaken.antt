-- The values that are taken from elements are the wire form of those that were written.
use Rattle.std.proofs.Common.{◌≡◌, ℕ, ◌+◌, ◌*◌, ◌/◌, ◌%◌, ◌≤◌, ◌^◌, Bool, true, false, cond, List, [], ◌∷◌, ◌++◌, refl, sym, ap, ◌∙◌, arith, ◌⊎◌, inl, inr, ⊎_elim, Option, Some, None}
use Rattle.std.specs.Prelude.{◌==◌, ◌||◌, ℤ, pos, negsuc}
use Rattle.std.specs.Int.{w16, to_be_bytes, w64}
use Rattle.rtp_wire.specs.declared.values.ExtensionValues.{ExtensionValues}
use Rattle.rtp_wire.specs.Extensions.{no_values, with_elements, written_values, named_by, is_at, with_value, written_ids, bytes_at, left_after, element_at, written_elements, is_named}
use Rattle.rtp_wire.specs.declared.extension.ExtensionMap.{ExtensionMap}
use Rattle.std.specs.Option.{option_or, option_map, option_and_then}
use native.Mathlib.Nat.{div-div-eq-div-mul}
use Rattle.rtp_base.specs.declared.media_time.MediaTime.{MediaTime}
use Rattle.rtp_wire.specs.declared.extension.Extension.{Extension}
use Rattle.rtp_wire.specs.declared.extension.Extension.TheVariants.{AudioLevel, AbsoluteSendTime, TransportSequenceNumber, RtpMid, RtpStreamId, RepairedRtpStreamId, VideoOrientation, AbsoluteCaptureTime, PlayoutDelay}
use Rattle.rtp_wire.specs.declared.values.VideoOrientation.{VideoOrientation as Turn}
use Rattle.rtp_wire.specs.declared.values.VideoOrientation.TheVariants.{Deg0, Deg90, Deg180, Deg270}
use Rattle.rtp_base.specs.Name.{is_name, name_of}
use Rattle.rtp_base.specs.Wire.{half_at, triple_at, double_at, triple_bytes}
use Rattle.rtp_wire.specs.Reading.{level_of, hundredths}
use Rattle.rtp_wire.specs.Writing.{minus_level, level_byte, quarter_turns, delay_steps, both, wire_values}

-- numbers in bytes, read again

byte_and_rest : (n p : ℕ) → n / p ≡ n / p % 256 + n / (p * 256) * 256
byte_and_rest n p = omega (arith, div-div-eq-div-mul n p 256)

triple_joined : (a b c n p q r : ℕ) → n ≡ a + p * 256 → p ≡ b + q * 256 → q ≡ c + r * 256 → c * 65536 + b * 256 + a + r * 16777216 ≡ n
triple_joined a b c n p q r at_0 at_1 at_2 = omega arith

triple_again : (n : ℕ) → triple_at (triple_bytes n) 0 ≡ n % 2 ^ 24
triple_again n =
    let low : n ≡ n % 256 + n / 256 * 256 = omega arith in
    omega (arith, triple_joined _ _ _ n _ _ _ low (byte_and_rest n 256) (byte_and_rest n 65536))

half_again : (n : ℕ) → half_at (to_be_bytes w16 n) 0 ≡ n % 2 ^ 16
half_again n =
    let low : n ≡ n % 256 + n / 256 * 256 = omega arith in
    omega (arith, byte_and_rest n 256)

double_joined : (a b c d e f g h n p q r s t u v w : ℕ) → n ≡ a + p * 256 → p ≡ b + q * 256 → q ≡ c + r * 256 → r ≡ d + s * 256 → s ≡ e + t * 256 → t ≡ f + u * 256 → u ≡ g + v * 256 → v ≡ h + w * 256
    → h * 72057594037927936 + g * 281474976710656 + f * 1099511627776 + e * 4294967296 + d * 16777216 + c * 65536 + b * 256 + a + w * 18446744073709551616 ≡ n
double_joined a b c d e f g h n p q r s t u v w at_0 at_1 at_2 at_3 at_4 at_5 at_6 at_7 = omega arith

double_cut : (s n : ℕ) → s + n / 18446744073709551616 * 18446744073709551616 ≡ n → s ≡ n % 2 ^ 64
double_cut s n h = omega arith

double_again : (n : ℕ) → double_at (to_be_bytes w64 n) 0 ≡ n % 2 ^ 64
double_again n =
    let low : n ≡ n % 256 + n / 256 * 256 = omega arith in
    double_cut _ n (double_joined _ _ _ _ _ _ _ _ n _ _ _ _ _ _ _ _ low (byte_and_rest n 256) (byte_and_rest n 65536) (byte_and_rest n 16777216) (byte_and_rest n 4294967296) (byte_and_rest n 1099511627776) (byte_and_rest n 281474976710656) (byte_and_rest n 72057594037927936))

level_bound : (l : ℤ) → minus_level l ≤ 127
level_bound (pos n) = omega arith
level_bound (negsuc n) = omega arith

byte_level : (s : Bool) (n : ℕ) → n ≤ 127 → (cond s 128 0 + n) % 128 ≡ n
byte_level true n h = omega arith
byte_level false n h = omega arith

byte_voice : (s : Bool) (n : ℕ) → n ≤ 127 → ((cond s 128 0 + n) / 128 % 2 == 1) ≡ s
byte_voice true n h = let e : (128 + n) / 128 % 2 ≡ 1 = omega arith in rw e refl
byte_voice false n h = let e : (0 + n) / 128 % 2 ≡ 0 = omega arith in rw e refl

-- the values after the bytes of one, if there are any
with_bytes : ExtensionValues → Option Extension → Option (List ℕ) → ExtensionValues
with_bytes v p None = v
with_bytes v p (Some bytes) = with_value v p bytes

-- the values v, and over them those of w that an extension holds
abbrev taken : Extension → ExtensionValues → ExtensionValues → ExtensionValues
taken AudioLevel v w = record v { audio_level = option_or (wire_values w).audio_level v.audio_level; voice_activity = option_or (wire_values w).voice_activity v.voice_activity }
taken AbsoluteSendTime v w = record v { abs_send_time = option_or (wire_values w).abs_send_time v.abs_send_time }
taken TransportSequenceNumber v w = record v { transport_cc = option_or (wire_values w).transport_cc v.transport_cc }
taken RtpMid v w = record v { mid = option_or (wire_values w).mid v.mid }
taken RtpStreamId v w = record v { rid = option_or (wire_values w).rid v.rid }
taken RepairedRtpStreamId v w = record v { rid_repair = option_or (wire_values w).rid_repair v.rid_repair }
taken VideoOrientation v w = record v { video_orientation = option_or (wire_values w).video_orientation v.video_orientation }
taken AbsoluteCaptureTime v w = record v { abs_capture_time = option_or (wire_values w).abs_capture_time v.abs_capture_time }
taken PlayoutDelay v w = record v { play_delay_min = option_or (wire_values w).play_delay_min v.play_delay_min; play_delay_max = option_or (wire_values w).play_delay_max v.play_delay_max }

abbrev taken_at : Option Extension → ExtensionValues → ExtensionValues → ExtensionValues
taken_at None v w = v
taken_at (Some e) v w = taken e v w

same_level : (v : ExtensionValues) (a b : ℕ) (s t : Bool) → a ≡ b → s ≡ t → (let x : ExtensionValues = record v { audio_level = Some (level_of a); voice_activity = Some s } in x) ≡ record v { audio_level = Some (level_of b); voice_activity = Some t }
same_level v a b s t p q = cc

level_taken : (v : ExtensionValues) (level : Option ℤ) (voice : Option Bool) → with_bytes v (Some AudioLevel) (both (λ l s. level_byte l s ∷ []) level voice)
    ≡ record v { audio_level = option_or (both (λ l s. level_of (minus_level l)) level voice) v.audio_level; voice_activity = option_or (both (λ l s. s) level voice) v.voice_activity }
unfolding with_bytes
level_taken v None voice = refl
level_taken v (Some l) None = refl
level_taken v (Some l) (Some s) = same_level v _ _ _ _ (byte_level s (minus_level l) (level_bound l)) (byte_voice s (minus_level l) (level_bound l))

time_taken : (v : ExtensionValues) (time : Option ℕ) → with_bytes v (Some AbsoluteSendTime) (option_map triple_bytes time) ≡ record v { abs_send_time = option_or (option_map (λ n. n % 2 ^ 24) time) v.abs_send_time }
unfolding with_bytes
time_taken v None = refl
time_taken v (Some n) = ap (λ (t : ℕ). let x : ExtensionValues = record v { abs_send_time = Some t } in x) (triple_again n)

number_taken : (v : ExtensionValues) (number : Option ℕ) → with_bytes v (Some TransportSequenceNumber) (option_map (to_be_bytes w16) number) ≡ record v { transport_cc = option_or (option_map (λ n. n % 2 ^ 16) number) v.transport_cc }
unfolding with_bytes
number_taken v None = refl
number_taken v (Some n) = ap (λ (t : ℕ). let x : ExtensionValues = record v { transport_cc = Some t } in x) (half_again n)

turn_taken : (v : ExtensionValues) (turn : Option Turn) → with_bytes v (Some VideoOrientation) (option_map (λ t. quarter_turns t ∷ []) turn) ≡ record v { video_orientation = option_or turn v.video_orientation }
unfolding with_bytes
turn_taken v None = refl
turn_taken v (Some Deg0) = refl
turn_taken v (Some Deg90) = refl
turn_taken v (Some Deg180) = refl
turn_taken v (Some Deg270) = refl

capture_taken : (v : ExtensionValues) (time : Option ℕ) → with_bytes v (Some AbsoluteCaptureTime) (option_map (to_be_bytes w64) time) ≡ record v { abs_capture_time = option_or (option_map (λ n. n % 2 ^ 64) time) v.abs_capture_time }
unfolding with_bytes
capture_taken v None = refl
capture_taken v (Some n) = ap (λ (t : ℕ). let x : ExtensionValues = record v { abs_capture_time = Some t } in x) (double_again n)

same_delays : (v : ExtensionValues) (a b c d : ℕ) → a ≡ b → c ≡ d → (let x : ExtensionValues = record v { play_delay_min = Some (hundredths a); play_delay_max = Some (hundredths c) } in x) ≡ record v { play_delay_min = Some (hundredths b); play_delay_max = Some (hundredths d) }
same_delays v a b c d p q = cc

delays_again : (a b n : ℕ) → a ≤ 4095 → b ≤ 4095 → n ≡ (a * 4096 + b) % 2 ^ 24 → (n / 4096 ≡ a) × (n % 4096 ≡ b)
delays_again a b n small few e = (omega arith, omega arith)

steps_bound : (t : MediaTime) → delay_steps t ≤ 4095
steps_bound t = omega arith

delays_taken : (v : ExtensionValues) (least greatest : Option MediaTime) → with_bytes v (Some PlayoutDelay) (both (λ a b. triple_bytes (delay_steps a * 4096 + delay_steps b)) least greatest)
    ≡ record v { play_delay_min = option_or (both (λ a b. hundredths (delay_steps a)) least greatest) v.play_delay_min; play_delay_max = option_or (both (λ a b. hundredths (delay_steps b)) least greatest) v.play_delay_max }
unfolding with_bytes
delays_taken v None greatest = refl
delays_taken v (Some a) None = refl
delays_taken v (Some a) (Some b) =
    let again = delays_again (delay_steps a) (delay_steps b) (triple_at (triple_bytes (delay_steps a * 4096 + delay_steps b)) 0) (steps_bound a) (steps_bound b) (triple_again (delay_steps a * 4096 + delay_steps b)) in
    same_delays v _ _ _ _ again.0 again.1

name_case : (bytes : List ℕ) → (name_of bytes ≡ Some bytes) ⊎ (name_of bytes ≡ None)
name_case bytes = elim (is_name bytes) as (λ t. (cond t (Some bytes) None ≡ Some bytes) ⊎ (cond t (Some bytes) None ≡ None)) [ true ↦ inl refl | false ↦ inr refl ]

mid_taken : (v : ExtensionValues) (name : Option (List ℕ)) → with_bytes v (Some RtpMid) (option_and_then name_of name) ≡ record v { mid = option_or (option_and_then name_of name) v.mid }
unfolding with_bytes
mid_taken v None = refl
mid_taken v (Some bytes) =
    ⊎_elim
    (λ (e : name_of bytes ≡ Some bytes). ap (with_bytes v (Some RtpMid)) e)
    (λ (e : name_of bytes ≡ None). ap (with_bytes v (Some RtpMid)) e ∙ sym (ap (λ (o : Option (List ℕ)). let x : ExtensionValues = record v { mid = option_or o v.mid } in x) e))
    (name_case bytes)

rid_taken : (v : ExtensionValues) (name : Option (List ℕ)) → with_bytes v (Some RtpStreamId) (option_and_then name_of name) ≡ record v { rid = option_or (option_and_then name_of name) v.rid }
unfolding with_bytes
rid_taken v None = refl
rid_taken v (Some bytes) =
    ⊎_elim
    (λ (e : name_of bytes ≡ Some bytes). ap (with_bytes v (Some RtpStreamId)) e)
    (λ (e : name_of bytes ≡ None). ap (with_bytes v (Some RtpStreamId)) e ∙ sym (ap (λ (o : Option (List ℕ)). let x : ExtensionValues = record v { rid = option_or o v.rid } in x) e))
    (name_case bytes)

repaired_taken : (v : ExtensionValues) (name : Option (List ℕ)) → with_bytes v (Some RepairedRtpStreamId) (option_and_then name_of name) ≡ record v { rid_repair = option_or (option_and_then name_of name) v.rid_repair }
unfolding with_bytes
repaired_taken v None = refl
repaired_taken v (Some bytes) =
    ⊎_elim
    (λ (e : name_of bytes ≡ Some bytes). ap (with_bytes v (Some RepairedRtpStreamId)) e)
    (λ (e : name_of bytes ≡ None). ap (with_bytes v (Some RepairedRtpStreamId)) e ∙ sym (ap (λ (o : Option (List ℕ)). let x : ExtensionValues = record v { rid_repair = option_or o v.rid_repair } in x) e))
    (name_case bytes)

bytes_taken : (p : Option Extension) (v w : ExtensionValues) → with_bytes v p (bytes_at p w) ≡ taken_at p v w
bytes_taken None v w = unfold with_bytes in refl
bytes_taken (Some AudioLevel) v w = level_taken v w.audio_level w.voice_activity
bytes_taken (Some AbsoluteSendTime) v w = time_taken v w.abs_send_time
bytes_taken (Some TransportSequenceNumber) v w = number_taken v w.transport_cc
bytes_taken (Some RtpMid) v w = mid_taken v w.mid
bytes_taken (Some RtpStreamId) v w = rid_taken v w.rid
bytes_taken (Some RepairedRtpStreamId) v w = repaired_taken v w.rid_repair
bytes_taken (Some VideoOrientation) v w = turn_taken v w.video_orientation
bytes_taken (Some AbsoluteCaptureTime) v w = capture_taken v w.abs_capture_time
bytes_taken (Some PlayoutDelay) v w = delays_taken v w.play_delay_min w.play_delay_max

-- the values v, and over them the wire form of those of w whose extension passes the test
abbrev over : (Extension → Bool) → ExtensionValues → ExtensionValues → ExtensionValues
over passes v w = record {
  audio_level = cond (passes AudioLevel) (option_or (wire_values w).audio_level v.audio_level) v.audio_level;
  voice_activity = cond (passes AudioLevel) (option_or (wire_values w).voice_activity v.voice_activity) v.voice_activity;
  video_orientation = cond (passes VideoOrientation) (option_or (wire_values w).video_orientation v.video_orientation) v.video_orientation;
  abs_send_time = cond (passes AbsoluteSendTime) (option_or (wire_values w).abs_send_time v.abs_send_time) v.abs_send_time;
  transport_cc = cond (passes TransportSequenceNumber) (option_or (wire_values w).transport_cc v.transport_cc) v.transport_cc;
  play_delay_min = cond (passes PlayoutDelay) (option_or (wire_values w).play_delay_min v.play_delay_min) v.play_delay_min;
  play_delay_max = cond (passes PlayoutDelay) (option_or (wire_values w).play_delay_max v.play_delay_max) v.play_delay_max;
  rid = cond (passes RtpStreamId) (option_or (wire_values w).rid v.rid) v.rid;
  rid_repair = cond (passes RepairedRtpStreamId) (option_or (wire_values w).rid_repair v.rid_repair) v.rid_repair;
  mid = cond (passes RtpMid) (option_or (wire_values w).mid v.mid) v.mid;
  abs_capture_time = cond (passes AbsoluteCaptureTime) (option_or (wire_values w).abs_capture_time v.abs_capture_time) v.abs_capture_time;
}

same_values : (a b : Option ℤ) (c d : Option Bool) (e f : Option Turn) (g h i j : Option ℕ) (k l m n : Option MediaTime) (o p q r s t : Option (List ℕ)) (u v : Option ℕ)
    → a ≡ b → c ≡ d → e ≡ f → g ≡ h → i ≡ j → k ≡ l → m ≡ n → o ≡ p → q ≡ r → s ≡ t → u ≡ v
    → (let x : ExtensionValues = record { audio_level = a; voice_activity = c; video_orientation = e; abs_send_time = g; transport_cc = i; play_delay_min = k; play_delay_max = m; rid = o; rid_repair = q; mid = s; abs_capture_time = u } in x)
    ≡ record { audio_level = b; voice_activity = d; video_orientation = f; abs_send_time = h; transport_cc = j; play_delay_min = l; play_delay_max = n; rid = p; rid_repair = r; mid = t; abs_capture_time = v }
same_values a b c d e f g h i j k l m n o p q r s t u v h1 h2 h3 h4 h5 h6 h7 h8 h9 h10 h11 = cc

same_either : {X : Type 0} (t : Bool) (x : X) → cond t x x ≡ x
same_either true x = refl
same_either false x = refl

-- a value that was taken is not left, and so is not taken again
taken_once : (passes : Extension → Bool) (p : Option Extension) (v w : ExtensionValues) → over passes (taken_at p v w) (left_after p w) ≡ over (λ e. is_at e p || passes e) v w
taken_once passes None v w = refl
taken_once passes (Some AudioLevel) v w = same_values _ _ _ _ _ _ _ _ _ _ _ _ _ _ _ _ _ _ _ _ _ _ (same_either (passes AudioLevel) _) (same_either (passes AudioLevel) _) refl refl refl refl refl refl refl refl refl
taken_once passes (Some VideoOrientation) v w = same_values _ _ _ _ _ _ _ _ _ _ _ _ _ _ _ _ _ _ _ _ _ _ refl refl (same_either (passes VideoOrientation) _) refl refl refl refl refl refl refl refl
taken_once passes (Some AbsoluteSendTime) v w = same_values _ _ _ _ _ _ _ _ _ _ _ _ _ _ _ _ _ _ _ _ _ _ refl refl refl (same_either (passes AbsoluteSendTime) _) refl refl refl refl refl refl refl
taken_once passes (Some TransportSequenceNumber) v w = same_values _ _ _ _ _ _ _ _ _ _ _ _ _ _ _ _ _ _ _ _ _ _ refl refl refl refl (same_either (passes TransportSequenceNumber) _) refl refl refl refl refl refl
taken_once passes (Some PlayoutDelay) v w = same_values _ _ _ _ _ _ _ _ _ _ _ _ _ _ _ _ _ _ _ _ _ _ refl refl refl refl refl (same_either (passes PlayoutDelay) _) (same_either (passes PlayoutDelay) _) refl refl refl refl
taken_once passes (Some RtpStreamId) v w = same_values _ _ _ _ _ _ _ _ _ _ _ _ _ _ _ _ _ _ _ _ _ _ refl refl refl refl refl refl refl (same_either (passes RtpStreamId) _) refl refl refl
taken_once passes (Some RepairedRtpStreamId) v w = same_values _ _ _ _ _ _ _ _ _ _ _ _ _ _ _ _ _ _ _ _ _ _ refl refl refl refl refl refl refl refl (same_either (passes RepairedRtpStreamId) _) refl refl
taken_once passes (Some RtpMid) v w = same_values _ _ _ _ _ _ _ _ _ _ _ _ _ _ _ _ _ _ _ _ _ _ refl refl refl refl refl refl refl refl refl (same_either (passes RtpMid) _) refl
taken_once passes (Some AbsoluteCaptureTime) v w = same_values _ _ _ _ _ _ _ _ _ _ _ _ _ _ _ _ _ _ _ _ _ _ refl refl refl refl refl refl refl refl refl refl (same_either (passes AbsoluteCaptureTime) _)

element_read : (exts : ExtensionMap) (v : ExtensionValues) (id : ℕ) (bytes : Option (List ℕ)) (rest : List (ℕ × List ℕ)) → with_elements exts v (element_at id bytes ++ rest) ≡ with_elements exts (with_bytes v (named_by exts id) bytes) rest
unfolding with_elements with_bytes
element_read exts v id None rest = refl
element_read exts v id (Some bytes) rest = refl

elements_taken : (ids : List ℕ) (exts : ExtensionMap) (v w : ExtensionValues) → with_elements exts v (written_elements ids exts w) ≡ over (is_named ids exts) v w
unfolding with_elements written_elements
elements_taken [] exts v w = refl
elements_taken (id ∷ ids) exts v w =
    let p : Option Extension = named_by exts id in
    let rest : List (ℕ × List ℕ) = written_elements ids exts (left_after p w) in
    element_read exts v id (bytes_at p w) rest
    ∙ ap (λ (x : ExtensionValues). with_elements exts x rest) (bytes_taken p v w)
    ∙ elements_taken ids exts (taken_at p v w) (left_after p w)
    ∙ taken_once (is_named ids exts) p v w

or_nothing : {X : Type 0} (t : Bool) (o : Option X) → cond t (option_or o None) None ≡ cond t o None
or_nothing true None = refl
or_nothing true (Some x) = refl
or_nothing false o = refl

pub elements_hold : (exts : ExtensionMap) (values : ExtensionValues) → with_elements exts no_values (written_elements written_ids exts values) ≡ written_values exts values
unfolding written_values
elements_hold exts values =
    elements_taken written_ids exts no_values values
    ∙ same_values _ _ _ _ _ _ _ _ _ _ _ _ _ _ _ _ _ _ _ _ _ _
    (or_nothing _ _) (or_nothing _ _) (or_nothing _ _) (or_nothing _ _) (or_nothing _ _) (or_nothing _ _) (or_nothing _ _) (or_nothing _ _) (or_nothing _ _) (or_nothing _ _) (or_nothing _ _)
