-- The elements in which values are written are at most 75 bytes.
use Rattle.std.proofs.Common.{◌≡◌, ℕ, ◌+◌, ◌≤◌, Bool, true, false, cond, List, [], ◌∷◌, ◌++◌, length, refl, ap, ◌∙◌, arith, length-append, Option, Some, None}
use Rattle.std.specs.List.{flat_map}
use Rattle.std.proofs.lemmas.Bool.Decides.{nat_tests}
use Rattle.rtp_wire.specs.declared.values.ExtensionValues.{ExtensionValues}
use Rattle.rtp_wire.specs.Extensions.{written_data, named_by, written_ids, bytes_at, left_after, element_at, written_elements, element_bytes}
use Rattle.rtp_wire.specs.declared.extension.ExtensionMap.{ExtensionMap}
use Rattle.std.proofs.lemmas.Grind.{flat_map-append}
use Rattle.std.specs.Option.{option_map, option_and_then}
use Rattle.rtp_wire.specs.declared.extension.Extension.{Extension}
use Rattle.rtp_wire.specs.declared.extension.Extension.TheVariants.{AudioLevel, AbsoluteSendTime, TransportSequenceNumber, RtpMid, RtpStreamId, RepairedRtpStreamId, VideoOrientation, AbsoluteCaptureTime, PlayoutDelay}
use Rattle.rtp_base.specs.Name.{is_name, name_of}
use Rattle.rtp_wire.specs.Writing.{both, value_bytes, without}

abbrev pub FitsIn : ℕ → Option (List ℕ) → Type 0
FitsIn n None = Unit {0}
FitsIn n (Some bytes) = (1 ≤ length bytes) × (length bytes ≤ n)

abbrev pub longest : Extension → ℕ
longest AudioLevel = 1
longest AbsoluteSendTime = 3
longest TransportSequenceNumber = 2
longest RtpMid = 16
longest RtpStreamId = 16
longest RepairedRtpStreamId = 16
longest VideoOrientation = 1
longest AbsoluteCaptureTime = 8
longest PlayoutDelay = 3

mapped_fits : {X : Type 0} (f : X → List ℕ) (n : ℕ) → ((x : X) → (1 ≤ length (f x)) × (length (f x) ≤ n)) → (o : Option X) → FitsIn n (option_map f o)
mapped_fits f n h None = tt
mapped_fits f n h (Some x) = h x

both_fits : {X Y : Type 0} (f : X → Y → List ℕ) (n : ℕ) → ((x : X) (y : Y) → (1 ≤ length (f x y)) × (length (f x y) ≤ n)) → (o : Option X) (p : Option Y) → FitsIn n (both f o p)
both_fits f n h None p = tt
both_fits f n h (Some x) None = tt
both_fits f n h (Some x) (Some y) = h x y

name_long : (bytes : List ℕ) → is_name bytes ≡ true → (1 ≤ length bytes) × (length bytes ≤ 16)
name_long bytes h = (grind (arith, nat_tests), grind (arith, nat_tests))

name_fits_at : (bytes : List ℕ) (t : Bool) → is_name bytes ≡ t → FitsIn 16 (cond t (Some bytes) None)
name_fits_at bytes true h = name_long bytes h
name_fits_at bytes false h = tt

name_fits : (name : Option (List ℕ)) → FitsIn 16 (option_and_then name_of name)
name_fits None = tt
name_fits (Some bytes) = name_fits_at bytes (is_name bytes) refl

pub value_fits : (e : Extension) (w : ExtensionValues) → FitsIn (longest e) (value_bytes e w)
value_fits AudioLevel w = both_fits _ 1 (λ x y. (omega arith, omega arith)) w.audio_level w.voice_activity
value_fits AbsoluteSendTime w = mapped_fits _ 3 (λ x. (omega arith, omega arith)) w.abs_send_time
value_fits TransportSequenceNumber w = mapped_fits _ 2 (λ x. (omega arith, omega arith)) w.transport_cc
value_fits RtpMid w = name_fits w.mid
value_fits RtpStreamId w = name_fits w.rid
value_fits RepairedRtpStreamId w = name_fits w.rid_repair
value_fits VideoOrientation w = mapped_fits _ 1 (λ x. (omega arith, omega arith)) w.video_orientation
value_fits AbsoluteCaptureTime w = mapped_fits _ 8 (λ x. (omega arith, omega arith)) w.abs_capture_time
value_fits PlayoutDelay w = both_fits _ 3 (λ x y. (omega arith, omega arith)) w.play_delay_min w.play_delay_max

-- the length of an element
abbrev size_of : Option (List ℕ) → ℕ
size_of None = 0
size_of (Some bytes) = length bytes + 1

abbrev size : ExtensionValues → ℕ
size w =
    size_of (value_bytes AudioLevel w) + size_of (value_bytes AbsoluteSendTime w) + size_of (value_bytes TransportSequenceNumber w) + size_of (value_bytes RtpMid w)
    + size_of (value_bytes RtpStreamId w) + size_of (value_bytes RepairedRtpStreamId w) + size_of (value_bytes VideoOrientation w) + size_of (value_bytes AbsoluteCaptureTime w)
    + size_of (value_bytes PlayoutDelay w)

size_fits : (n : ℕ) (o : Option (List ℕ)) → FitsIn n o → size_of o ≤ n + 1
size_fits n None h = omega arith
size_fits n (Some bytes) h = omega arith

sum_bound : (a b c d e f g h i : ℕ) → a ≤ 2 → b ≤ 4 → c ≤ 3 → d ≤ 17 → e ≤ 17 → f ≤ 17 → g ≤ 2 → h ≤ 9 → i ≤ 4 → a + b + c + d + e + f + g + h + i ≤ 75
sum_bound a b c d e f g h i ha hb hc hd he hf hg hh hi = omega arith

size_at : (e : Extension) (w : ExtensionValues) → size_of (value_bytes e w) ≤ longest e + 1
size_at e w = size_fits (longest e) (value_bytes e w) (value_fits e w)

size_bound : (w : ExtensionValues) → size w ≤ 75
size_bound w =
    sum_bound _ _ _ _ _ _ _ _ _ (size_at AudioLevel w) (size_at AbsoluteSendTime w) (size_at TransportSequenceNumber w) (size_at RtpMid w) (size_at RtpStreamId w) (size_at RepairedRtpStreamId w) (size_at VideoOrientation w) (size_at AbsoluteCaptureTime w) (size_at PlayoutDelay w)

size_split : (e : Extension) (w : ExtensionValues) → size w ≡ size_of (value_bytes e w) + size (without e w)
size_split AudioLevel w = omega arith
size_split AbsoluteSendTime w = omega arith
size_split TransportSequenceNumber w = omega arith
size_split RtpMid w = omega arith
size_split RtpStreamId w = omega arith
size_split RepairedRtpStreamId w = omega arith
size_split VideoOrientation w = omega arith
size_split AbsoluteCaptureTime w = omega arith
size_split PlayoutDelay w = omega arith

size_at_id : (p : Option Extension) (w : ExtensionValues) → size w ≡ size_of (bytes_at p w) + size (left_after p w)
size_at_id None w = omega arith
size_at_id (Some e) w = size_split e w

length-element : (id : ℕ) (bytes : Option (List ℕ)) → length (flat_map element_bytes (element_at id bytes)) ≡ size_of bytes
length-element id None = refl
length-element id (Some bytes) = omega (arith, length-append bytes [])

elements_bound : (ids : List ℕ) (exts : ExtensionMap) (w : ExtensionValues) → length (flat_map element_bytes (written_elements ids exts w)) ≤ size w
unfolding written_elements
elements_bound [] exts w = omega arith
elements_bound (id ∷ ids) exts w =
    let p : Option Extension = named_by exts id in
    let first : List (ℕ × List ℕ) = element_at id (bytes_at p w) in
    let rest : List (ℕ × List ℕ) = written_elements ids exts (left_after p w) in
    let parts : length (flat_map element_bytes (first ++ rest)) ≡ length (flat_map element_bytes first) + length (flat_map element_bytes rest) = ap length (flat_map-append element_bytes first rest) ∙ length-append (flat_map element_bytes first) (flat_map element_bytes rest) in
    joined_bound _ _ _ _ _ _ parts (length-element id (bytes_at p w)) (elements_bound ids exts (left_after p w)) (size_at_id p w)
  where
    joined_bound : (all a b s t whole : ℕ) → all ≡ a + b → a ≡ s → b ≤ t → whole ≡ s + t → all ≤ whole
    joined_bound all a b s t whole e f g h = omega arith

pub data_bound : (exts : ExtensionMap) (values : ExtensionValues) → length (written_data exts values) ≤ 75
unfolding written_data
data_bound exts values = omega (arith, elements_bound written_ids exts values, size_bound values)
