-- What is told of items that are read back; those that ask for packets are, whatever their sender.
use Rattle.std.proofs.Common.{◌≡◌, ℕ, zero, suc, ◌%◌, ◌/◌, ◌^◌, ◌<◌, List, [], ◌∷◌, ◌++◌, take, drop, map, refl, sym, ap, ◌∙◌, arith}
use Rattle.std.specs.List.{AllByRecursion, flat_map}
use Rattle.std.specs.Int.{w32, to_be_bytes}
use Rattle.std.proofs.lemmas.List.{append-nil}
use Rattle.rtp_base.specs.declared.nack_entry.NackEntry.{NackEntry}
use Rattle.rtcp_wire.specs.declared.packet.Rtcp.{Rtcp}
use Rattle.rtcp_wire.specs.declared.rtcp_fb.RtcpFb.{RtcpFb}
use Rattle.rtcp_wire.specs.declared.packet.Rtcp.TheVariants.{Nack}
use Rattle.rtcp_wire.specs.Feedback.{nack_body}
use Rattle.rtcp_wire.specs.Items.{items_of}
use Rattle.rtcp_wire.specs.Laws.{IsHeld, held, ItemsReadBack, ItemsFitByLengths}
use Rattle.rtcp_wire.specs.Rows.{nack_entry_text}
use Rattle.rtcp_wire.specs.Streams.{feedback_of}
use Rattle.rtcp_wire.specs.Texts.{text_of, framed, body_of}
use Rattle.session_turns.proofs.Entries.{AreFew}

-- an item whose bytes are those of one that is read back
pub record IsRead (x : Rtcp) : Type 0 where
  pub read : Rtcp
  pub text : text_of x ≡ text_of read
  pub held_is : IsHeld read

-- what is told of an item: what its bytes are read as
abbrev pub told_of : Rtcp → List RtcpFb
told_of x = flat_map feedback_of (items_of (text_of x))

-- and of one that is read back
pub told_is : ItemsReadBack → (x : Rtcp) → (h : IsRead x) → told_of x ≡ feedback_of (held h.read)
told_is law x h =
    ap (λ (bytes : List ℕ). flat_map feedback_of (items_of bytes)) (h.text ∙ sym (append-nil (text_of h.read)))
    ∙ ap (flat_map feedback_of) (law (h.read ∷ []) (h.held_is, tt))
    ∙ append-nil (feedback_of (held h.read))

record AreRead (xs : List Rtcp) : Type 0 where
  items : List Rtcp
  texts : flat_map text_of xs ≡ flat_map text_of items
  held_are : AllByRecursion IsHeld items
  told : flat_map feedback_of (map held items) ≡ flat_map told_of xs

are_read : ItemsReadBack → (xs : List Rtcp) → AllByRecursion IsRead xs → AreRead xs
are_read law [] h = record { items = []; texts = refl; held_are = tt; told = refl }
are_read law (x ∷ xs) h =
    let rest = are_read law xs h.1 in
    let here = told_is law x h.0 in
    record {
      items = h.0.read ∷ rest.items;
      texts = λ i. h.0.text i ++ rest.texts i;
      held_are = (h.0.held_is, rest.held_are);
      told = λ i. sym here i ++ rest.told i;
    }

-- items in one text are read as each is
pub reads_back : ItemsReadBack → (xs : List Rtcp) → AllByRecursion IsRead xs → flat_map feedback_of (items_of (flat_map text_of xs)) ≡ flat_map told_of xs
reads_back law xs h =
    let a = are_read law xs h in
    ap (λ (bytes : List ℕ). flat_map feedback_of (items_of bytes)) a.texts
    ∙ ap (flat_map feedback_of) (law a.items a.held_are)
    ∙ a.told

-- a word has the low 32 bits of a number
pub same_word : (n : ℕ) → to_be_bytes w32 n ≡ to_be_bytes w32 (n % 4294967296)
same_word n =
    let a : n / 16777216 % 256 ≡ n % 4294967296 / 16777216 % 256 = omega arith in
    let b : n / 65536 % 256 ≡ n % 4294967296 / 65536 % 256 = omega arith in
    let c : n / 256 % 256 ≡ n % 4294967296 / 256 % 256 = omega arith in
    let d : n % 256 ≡ n % 4294967296 % 256 = omega arith in
    λ i. a i ∷ b i ∷ c i ∷ d i ∷ []

same_body : (sender ssrc : ℕ) (es : List NackEntry)
    → body_of (Nack (record { sender_ssrc = sender; ssrc = ssrc; reports = es })) ≡ body_of (Nack (record { sender_ssrc = sender % 4294967296; ssrc = ssrc; reports = es }))
unfolding nack_body
same_body sender ssrc es = ap (λ (w : List ℕ). (w ++ (to_be_bytes w32 ssrc ++ [])) ++ flat_map nack_entry_text es) (same_word sender)

same_text : (sender ssrc : ℕ) (es : List NackEntry)
    → text_of (Nack (record { sender_ssrc = sender; ssrc = ssrc; reports = es })) ≡ text_of (Nack (record { sender_ssrc = sender % 4294967296; ssrc = ssrc; reports = es }))
unfolding text_of
same_text sender ssrc es = ap (framed 1 205) (same_body sender ssrc es)

pub nack_is_read : (sender ssrc : ℕ) (es : List NackEntry) → ItemsFitByLengths → ssrc < 2 ^ 32 → AreFew es
    → IsRead (Nack (record { sender_ssrc = sender; ssrc = ssrc; reports = es }))
nack_is_read sender ssrc es law word few =
    let low : sender % 4294967296 < 4294967296 = omega arith in
    let short = few.few in
    record {
      read = Nack (record { sender_ssrc = sender % 4294967296; ssrc = ssrc; reports = es });
      text = same_text sender ssrc es;
      held_is = record {
        writable = law (Nack (record { sender_ssrc = sender % 4294967296; ssrc = ssrc; reports = es })) (omega arith);
        fields = (low, word, omega arith, few.fit);
      };
    }

-- and what is told of it is what it says
pub nack_told : ItemsReadBack → (sender ssrc : ℕ) (es : List NackEntry) → ItemsFitByLengths → ssrc < 2 ^ 32 → AreFew es
    → told_of (Nack (record { sender_ssrc = sender; ssrc = ssrc; reports = es })) ≡ feedback_of (Nack (record { sender_ssrc = sender; ssrc = ssrc; reports = es }))
unfolding nack_is_read
nack_told law sender ssrc es lengths word few =
    told_is law (Nack (record { sender_ssrc = sender; ssrc = ssrc; reports = es })) (nack_is_read sender ssrc es lengths word few)

-- the first of some, and the others
pub all_take : {X : Type 0} (P : X → Type 0) (n : ℕ) (xs : List X) → AllByRecursion P xs → AllByRecursion P (take n xs)
all_take P zero xs h = tt
all_take P (suc n) [] h = tt
all_take P (suc n) (x ∷ xs) h = (h.0, all_take P n xs h.1)

pub all_drop : {X : Type 0} (P : X → Type 0) (n : ℕ) (xs : List X) → AllByRecursion P xs → AllByRecursion P (drop n xs)
all_drop P zero xs h = h
all_drop P (suc n) [] h = tt
all_drop P (suc n) (x ∷ xs) h = all_drop P n xs h.1
