-- A header that is written is read again, whatever follows it.
use Rattle.std.proofs.Common.{◌≡◌, ℕ, zero, suc, ◌+◌, ◌-◌, ◌*◌, ◌/◌, ◌%◌, ◌<◌, ◌≤◌, ◌^◌, Bool, true, false, cond, List, [], ◌∷◌, ◌++◌, length, take, drop, replicate, refl, sym, ap, ◌∙◌, append_assoc, arith, length-append, Some}
use Rattle.std.specs.Prelude.{nat_lt, ◌==◌}
use Rattle.std.specs.List.{flat_map}
use Rattle.std.specs.Int.{w16, w32, from_be_bytes, to_be_bytes}
use Rattle.std.proofs.lemmas.Bool.Decides.{nat_tests}
use Rattle.std.proofs.lemmas.Nat.{from_be_bytes-to_be_bytes_2, from_be_bytes-to_be_bytes_4}
use Rattle.rtp_base.specs.Wire.{half_at}
use Rattle.rtp_wire.specs.Bytes.{words_of}
use Rattle.std.proofs.lemmas.List.{length-take-le, take_at, drop_at, drop-drop, length-replicate}
use Rattle.rtp_wire.specs.declared.values.ExtensionValues.{ExtensionValues}
use Rattle.rtp_wire.specs.Extensions.{no_values, one_byte_elements, with_elements, values_of, written_data, words_for, with_data, extension_bytes, written_values}
use Rattle.rtp_wire.specs.declared.extension.ExtensionMap.{ExtensionMap}
use Rattle.rtp_wire.specs.declared.header.RtpHeader.{RtpHeader}
use Rattle.rtp_wire.specs.Header.{has_extension_bit, source_count, sources, sources_end, extension_profile, extension_length, extension_data, header_end, fields_of, header_of, csrc_of, bit, fixed_bytes, header_bytes, wire_form}
use Rattle.rtp_wire.specs.HeaderLaws.{IsHeader, IsReadAgain, WrittenIsReadAgain, PlainIsReadAgain}
use Rattle.rtp_wire.specs.BytesLaws.{AreWords}
use Rattle.rtp_wire.proofs.WordsAgain.{words_again, length-flat_words}
use Rattle.rtp_wire.proofs.ValueLengths.{data_bound}
use Rattle.rtp_wire.proofs.ValuesAgain.{data_again, no_data}
use Rattle.rtp_wire.proofs.OwnBytes.{Stands, values_in, found}

first_version : (p x : Bool) (n : ℕ) → n ≤ 15 → (128 + bit p 32 + bit x 16 + n) / 64 ≡ 2
first_version true true n h = omega arith
first_version true false n h = omega arith
first_version false true n h = omega arith
first_version false false n h = omega arith

first_count : (p x : Bool) (n : ℕ) → n ≤ 15 → (128 + bit p 32 + bit x 16 + n) % 16 ≡ n
first_count true true n h = omega arith
first_count true false n h = omega arith
first_count false true n h = omega arith
first_count false false n h = omega arith

first_padding : (p x : Bool) (n : ℕ) → n ≤ 15 → ((128 + bit p 32 + bit x 16 + n) / 32 % 2 == 1) ≡ p
first_padding true true n h = let e : (128 + 32 + 16 + n) / 32 % 2 ≡ 1 = omega arith in rw e refl
first_padding true false n h = let e : (128 + 32 + 0 + n) / 32 % 2 ≡ 1 = omega arith in rw e refl
first_padding false true n h = let e : (128 + 0 + 16 + n) / 32 % 2 ≡ 0 = omega arith in rw e refl
first_padding false false n h = let e : (128 + 0 + 0 + n) / 32 % 2 ≡ 0 = omega arith in rw e refl

first_extension : (p x : Bool) (n : ℕ) → n ≤ 15 → ((128 + bit p 32 + bit x 16 + n) / 16 % 2 == 1) ≡ x
first_extension true true n h = let e : (128 + 32 + 16 + n) / 16 % 2 ≡ 1 = omega arith in rw e refl
first_extension true false n h = let e : (128 + 32 + 0 + n) / 16 % 2 ≡ 0 = omega arith in rw e refl
first_extension false true n h = let e : (128 + 0 + 16 + n) / 16 % 2 ≡ 1 = omega arith in rw e refl
first_extension false false n h = let e : (128 + 0 + 0 + n) / 16 % 2 ≡ 0 = omega arith in rw e refl

second_marker : (m : Bool) (t : ℕ) → ((bit m 128 + t % 128) / 128 % 2 == 1) ≡ m
second_marker true t = let e : (128 + t % 128) / 128 % 2 ≡ 1 = omega arith in rw e refl
second_marker false t = let e : (0 + t % 128) / 128 % 2 ≡ 0 = omega arith in rw e refl

second_type : (m : Bool) (t : ℕ) → (bit m 128 + t % 128) % 128 ≡ t % 128
second_type true t = omega arith
second_type false t = omega arith

-- an extension as it is written: nothing, or the profile of the one-byte form, its length in words and its data, which has
-- these values
pub data IsWritten (exts : ExtensionMap) (values : ExtensionValues) : List ℕ → Type 0 where
  nothing : values ≡ no_values → IsWritten exts values []
  some : (n : ℕ) (bytes : List ℕ) → n < 2 ^ 16 → length bytes ≡ 4 * n → values_of exts 48862 bytes ≡ values → IsWritten exts values (190 ∷ 222 ∷ to_be_bytes w16 n ++ bytes)

AreWords-take : (k : ℕ) (ws : List ℕ) → AreWords ws → AreWords (take k ws)
AreWords-take zero ws h = tt
AreWords-take (suc k) [] h = tt
AreWords-take (suc k) (w ∷ ws) h = (h.0, AreWords-take k ws h.1)

-- the bytes of a header with this extension, and what follows them
pub packet : RtpHeader → List ℕ → List ℕ → List ℕ
packet h extension rest = fixed_bytes h (nat_lt 0 (length extension)) ++ flat_map (to_be_bytes w32) (csrc_of h) ++ extension ++ rest

length-sources : (h : RtpHeader) → IsHeader h → length (flat_map (to_be_bytes w32) (csrc_of h)) ≡ 4 * h.csrc_count
length-sources h i = length-flat_words (csrc_of h) ∙ ap (λ (n : ℕ). 4 * n) (length-take-le h.csrc_count h.csrc (omega (arith, i.few, i.room)))

packet_count : (h : RtpHeader) (extension rest : List ℕ) → IsHeader h → source_count (packet h extension rest) ≡ h.csrc_count
unfolding packet
packet_count h extension rest i = first_count h.has_padding (nat_lt 0 (length extension)) h.csrc_count i.few

packet_extended : (h : RtpHeader) (extension rest : List ℕ) → IsHeader h → has_extension_bit (packet h extension rest) ≡ nat_lt 0 (length extension)
unfolding packet
packet_extended h extension rest i = first_extension h.has_padding (nat_lt 0 (length extension)) h.csrc_count i.few

-- what stands behind the first twelve bytes
packet_tail : (h : RtpHeader) (extension rest : List ℕ) → drop 12 (packet h extension rest) ≡ flat_map (to_be_bytes w32) (csrc_of h) ++ (extension ++ rest)
unfolding packet
packet_tail h extension rest = append_assoc (flat_map (to_be_bytes w32) (csrc_of h)) extension rest

packet_words : (h : RtpHeader) (extension rest : List ℕ) → IsHeader h → sources (packet h extension rest) ≡ csrc_of h
packet_words h extension rest i =
    let tail = packet_tail h extension rest in
    let count = packet_count h extension rest i in
    ap (λ (n : ℕ). words_of (take (4 * n) (drop 12 (packet h extension rest)))) count
    ∙ ap (λ (l : List ℕ). words_of (take (4 * h.csrc_count) l)) tail
    ∙ ap words_of (take_at (flat_map (to_be_bytes w32) (csrc_of h)) (extension ++ rest) (4 * h.csrc_count) (length-sources h i))
    ∙ words_again (csrc_of h) (AreWords-take h.csrc_count h.csrc i.words)

-- what stands behind the sources
packet_end : (h : RtpHeader) (extension rest : List ℕ) (k : ℕ) → IsHeader h → drop (sources_end (packet h extension rest) + k) (packet h extension rest) ≡ drop k (extension ++ rest)
packet_end h extension rest k i =
    let count = packet_count h extension rest i in
    let bytes : List ℕ = packet h extension rest in
    ap (λ (n : ℕ). drop (12 + 4 * n + k) bytes) count
    ∙ sym (drop-drop k (12 + 4 * h.csrc_count) bytes)
    ∙ ap (drop k) (sym (drop-drop (4 * h.csrc_count) 12 bytes) ∙ ap (drop (4 * h.csrc_count)) (packet_tail h extension rest) ∙ drop_at (flat_map (to_be_bytes w32) (csrc_of h)) (extension ++ rest) (4 * h.csrc_count) (length-sources h i))

length-packet : (h : RtpHeader) (extension rest : List ℕ) → IsHeader h → length (packet h extension rest) ≡ 12 + 4 * h.csrc_count + length extension + length rest
unfolding packet
length-packet h extension rest i =
    omega (arith, length-sources h i, length-append (flat_map (to_be_bytes w32) (csrc_of h) ++ extension) rest, length-append (flat_map (to_be_bytes w32) (csrc_of h)) extension)

packet_start : (h : RtpHeader) (extension rest : List ℕ) → IsHeader h → drop (sources_end (packet h extension rest)) (packet h extension rest) ≡ extension ++ rest
packet_start h extension rest i =
    let bytes : List ℕ = packet h extension rest in
    let same : sources_end bytes ≡ sources_end bytes + 0 = omega arith in
    ap (λ (n : ℕ). drop n bytes) same ∙ packet_end h extension rest 0 i

packet_length : (h : RtpHeader) (n : ℕ) (bytes rest : List ℕ) → IsHeader h → n < 2 ^ 16 → half_at (packet h (190 ∷ 222 ∷ to_be_bytes w16 n ++ bytes) rest) (sources_end (packet h (190 ∷ 222 ∷ to_be_bytes w16 n ++ bytes) rest) + 2) ≡ n
packet_length h n bytes rest i small =
    ap (from_be_bytes w16) (packet_end h (190 ∷ 222 ∷ to_be_bytes w16 n ++ bytes) rest 2 i) ∙ from_be_bytes-to_be_bytes_2 n small

packet_profile : (h : RtpHeader) (n : ℕ) (bytes rest : List ℕ) → IsHeader h → extension_profile (packet h (190 ∷ 222 ∷ to_be_bytes w16 n ++ bytes) rest) ≡ 48862
packet_profile h n bytes rest i = ap (from_be_bytes w16) (packet_start h (190 ∷ 222 ∷ to_be_bytes w16 n ++ bytes) rest i)

packet_data : (h : RtpHeader) (n : ℕ) (bytes rest : List ℕ) → IsHeader h → length bytes ≡ 4 * n → take (4 * n) (drop (sources_end (packet h (190 ∷ 222 ∷ to_be_bytes w16 n ++ bytes) rest) + 4) (packet h (190 ∷ 222 ∷ to_be_bytes w16 n ++ bytes) rest)) ≡ bytes
packet_data h n bytes rest i long =
    ap (take (4 * n)) (packet_end h (190 ∷ 222 ∷ to_be_bytes w16 n ++ bytes) rest 4 i) ∙ take_at bytes rest (4 * n) long

any_above : (n : ℕ) → nat_lt 0 (suc n) ≡ true
any_above n = grind (arith, nat_tests)

packet_is_extended : (h : RtpHeader) (n : ℕ) (bytes rest : List ℕ) → IsHeader h → has_extension_bit (packet h (190 ∷ 222 ∷ to_be_bytes w16 n ++ bytes) rest) ≡ true
packet_is_extended h n bytes rest i = packet_extended h (190 ∷ 222 ∷ to_be_bytes w16 n ++ bytes) rest i ∙ any_above (suc (suc (suc (length bytes))))

packet_values : (exts : ExtensionMap) (values : ExtensionValues) (h : RtpHeader) (extension rest : List ℕ) → IsHeader h → IsWritten exts values extension → values_in exts (packet h extension rest) ≡ values
unfolding values_in
packet_values exts values h [] rest i (nothing e) = ap (λ (t : Bool). cond t (values_of exts (extension_profile (packet h [] rest)) (extension_data (packet h [] rest))) no_values) (packet_extended h [] rest i) ∙ sym e
packet_values exts values h e rest i (some n bytes small long is) =
    let extension : List ℕ = 190 ∷ 222 ∷ to_be_bytes w16 n ++ bytes in
    let whole : List ℕ = packet h extension rest in
    ap (λ (t : Bool). cond t (values_of exts (extension_profile whole) (extension_data whole)) no_values) (packet_is_extended h n bytes rest i)
    ∙ ap (λ (p : ℕ). values_of exts p (extension_data whole)) (packet_profile h n bytes rest i)
    ∙ ap (λ (k : ℕ). values_of exts 48862 (take (4 * k) (drop (sources_end whole + 4) whole))) (packet_length h n bytes rest i small)
    ∙ ap (values_of exts 48862) (packet_data h n bytes rest i long)
    ∙ is

packet_header_end : (exts : ExtensionMap) (values : ExtensionValues) (h : RtpHeader) (extension rest : List ℕ) → IsHeader h → IsWritten exts values extension → header_end (packet h extension rest) ≡ 12 + 4 * h.csrc_count + length extension
packet_header_end exts values h [] rest i (nothing e) =
    let whole : List ℕ = packet h [] rest in
    ap (λ (t : Bool). cond t (sources_end whole + 4 + extension_length whole) (sources_end whole)) (packet_extended h [] rest i)
    ∙ ap (λ (n : ℕ). 12 + 4 * n) (packet_count h [] rest i) ∙ omega arith
packet_header_end exts values h e rest i (some n bytes small long is) =
    let extension : List ℕ = 190 ∷ 222 ∷ to_be_bytes w16 n ++ bytes in
    let whole : List ℕ = packet h extension rest in
    ap (λ (t : Bool). cond t (sources_end whole + 4 + extension_length whole) (sources_end whole)) (packet_is_extended h n bytes rest i)
    ∙ omega (arith, packet_count h extension rest i, packet_length h n bytes rest i small, long)

-- the header that is read off a packet
abbrev pub read_form : RtpHeader → ExtensionValues → ℕ → RtpHeader
read_form h values len = record h {
  payload_type = h.payload_type % 128;
  csrc = csrc_of h ++ replicate (15 - h.csrc_count) 0;
  ext_vals = values;
  header_len = len;
}

same_header : (p q m n : Bool) (t u s r a b c d e f : ℕ) (k l : List ℕ) (v w : ExtensionValues) (x y : ℕ) → p ≡ q → m ≡ n → t ≡ u → s ≡ r → a ≡ b → c ≡ d → e ≡ f → k ≡ l → v ≡ w → x ≡ y
    → (let g : RtpHeader = record { has_padding = p; marker = m; payload_type = t; sequence_number = s; timestamp = a; ssrc = c; csrc_count = e; csrc = k; ext_vals = v; header_len = x } in g)
    ≡ record { has_padding = q; marker = n; payload_type = u; sequence_number = r; timestamp = b; ssrc = d; csrc_count = f; csrc = l; ext_vals = w; header_len = y }
same_header p q m n t u s r a b c d e f k l v w x y h1 h2 h3 h4 h5 h6 h7 h8 h9 h10 = cc

packet_fields : (exts : ExtensionMap) (values : ExtensionValues) (h : RtpHeader) (extension rest : List ℕ) → IsHeader h → IsWritten exts values extension
    → fields_of exts (packet h extension rest) ≡ read_form h values (12 + 4 * h.csrc_count + length extension)
unfolding packet values_in
packet_fields exts values h extension rest i w =
    let count = packet_count h extension rest i in
    same_header _ _ _ _ _ _ _ _ _ _ _ _ _ _ _ _ _ _ _ _
    (first_padding h.has_padding (nat_lt 0 (length extension)) h.csrc_count i.few)
    (second_marker h.marker h.payload_type)
    (second_type h.marker h.payload_type)
    (from_be_bytes-to_be_bytes_2 h.sequence_number i.number)
    (from_be_bytes-to_be_bytes_4 h.timestamp i.time)
    (from_be_bytes-to_be_bytes_4 h.ssrc i.source)
    count
    (ap (λ (n : ℕ). sources (packet h extension rest) ++ replicate (15 - n) 0) count ∙ ap (λ (l : List ℕ). l ++ replicate (15 - h.csrc_count) 0) (packet_words h extension rest i))
    (packet_values exts values h extension rest i w)
    (packet_header_end exts values h extension rest i w)

packet_stands : (exts : ExtensionMap) (values : ExtensionValues) (h : RtpHeader) (extension rest : List ℕ) → IsHeader h → IsWritten exts values extension → Stands (packet h extension rest)
packet_stands exts values h extension rest i w = record {
  fixed = omega (arith, length-packet h extension rest i);
  two = unfold packet in first_version h.has_padding (nat_lt 0 (length extension)) h.csrc_count i.few;
  whole = omega (arith, length-packet h extension rest i, packet_header_end exts values h extension rest i w);
}

-- what is written is read again, whatever follows it
pub packet_reads : (exts : ExtensionMap) (values : ExtensionValues) (h : RtpHeader) (extension rest : List ℕ) → IsHeader h → IsWritten exts values extension
    → header_of exts (packet h extension rest) ≡ Some (read_form h values (12 + 4 * h.csrc_count + length extension))
packet_reads exts values h extension rest i w =
    found exts (packet h extension rest) (packet_stands exts values h extension rest i w) ∙ ap Some (packet_fields exts values h extension rest i w)

length_written : (exts : ExtensionMap) (h : RtpHeader) → IsHeader h → length (header_bytes exts h) ≡ 12 + 4 * h.csrc_count + length (extension_bytes exts h.ext_vals)
unfolding header_bytes packet
length_written exts h i =
    omega (arith, length-sources h i, length-append (flat_map (to_be_bytes w32) (csrc_of h)) (extension_bytes exts h.ext_vals))

pub read_again : (exts : ExtensionMap) (h : RtpHeader) → IsHeader h → IsWritten exts (written_values exts h.ext_vals) (extension_bytes exts h.ext_vals) → IsReadAgain exts h
unfolding header_bytes wire_form packet
read_again exts h i w rest =
    packet_reads exts (written_values exts h.ext_vals) h (extension_bytes exts h.ext_vals) rest i w
    ∙ ap (λ (n : ℕ). Some (read_form h (written_values exts h.ext_vals) n)) (sym (length_written exts h i))

data_written : (exts : ExtensionMap) (values : ExtensionValues) (bytes : List ℕ) → length bytes ≤ 75 → ((k : ℕ) → values_of exts 48862 (bytes ++ replicate k 0) ≡ values) → IsWritten exts values (with_data bytes)
data_written exts values [] h again = nothing (sym (again 0) ∙ unfold values_of with_elements one_byte_elements in refl)
data_written exts values (b ∷ bytes) h again =
    let n : ℕ = words_for (length (b ∷ bytes)) in
    let more : ℕ = 4 * n - length (b ∷ bytes) in
    some n ((b ∷ bytes) ++ replicate more 0) (omega arith) (omega (arith, length-append (b ∷ bytes) (replicate more 0), length-replicate {A = ℕ} more 0)) (again more)

pub is_written : (exts : ExtensionMap) (values : ExtensionValues) → IsWritten exts (written_values exts values) (extension_bytes exts values)
unfolding extension_bytes
is_written exts values = data_written exts (written_values exts values) (written_data exts values) (data_bound exts values) (data_again exts values)

pub written_is_read_again : WrittenIsReadAgain
written_is_read_again exts h i = read_again exts h i (is_written exts h.ext_vals)

pub nothing_written : (exts : ExtensionMap) → extension_bytes exts no_values ≡ []
unfolding extension_bytes
nothing_written exts = ap with_data (no_data exts)

pub plain_is_read_again : PlainIsReadAgain
unfolding header_bytes packet
plain_is_read_again exts h rest p =
    let i : IsHeader h = record { number = p.number; time = p.time; source = p.source; few = p.few; room = p.room; words = p.words } in
    let empty : extension_bytes exts h.ext_vals ≡ [] = ap (extension_bytes exts) p.values ∙ nothing_written exts in
    ap (λ (e : List ℕ). header_of exts (packet h e rest)) empty
    ∙ packet_reads exts no_values h [] rest i (nothing refl)
    ∙ ap Some (same_header _ _ _ _ _ _ _ _ _ _ _ _ _ _ _ _ _ _ _ _ refl refl (omega (arith, p.type)) refl refl refl refl (sym p.zeros) (sym p.values) (omega (arith, p.len)))
