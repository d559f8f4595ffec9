-- The names of scripts are names of header extensions.
use Rattle.std.proofs.Common.{◌≡◌, ℕ, Bool, true, false, not, ◌&&◌, eqb, leb, ltb, List, [], ◌∷◌, length, refl, arith}
use Rattle.std.specs.Char.{is_ascii_alphanumeric}
use Rattle.std.specs.List.{list_all}
use Rattle.std.proofs.lemmas.Bool.Decides.{nat_tests}
use Rattle.rtp_wire.specs.Name.{is_name as is_wire}
use Rattle.media_script.specs.Words.{is_name}

plain_byte : (b : ℕ) → is_ascii_alphanumeric b ≡ true → ltb b 128 ≡ true
plain_byte b h = grind (arith, nat_tests)

plain_bytes : (word : List ℕ) → list_all is_ascii_alphanumeric word ≡ true → list_all (λ b. ltb b 128) word ≡ true
plain_bytes [] h = refl
plain_bytes (b ∷ word) h = both (plain_bytes word) (is_ascii_alphanumeric b) refl h where
  both : (list_all is_ascii_alphanumeric word ≡ true → list_all (λ x. ltb x 128) word ≡ true)
      → (c : Bool) → is_ascii_alphanumeric b ≡ c → (c && list_all is_ascii_alphanumeric word) ≡ true → (ltb b 128 && list_all (λ x. ltb x 128) word) ≡ true
  both rest true p e = rw (plain_byte b p, rest e) refl
  both rest false p e = absurd cc

pub is_wire_name : (word : List ℕ) → is_name 16 word ≡ true → is_wire word ≡ true
is_wire_name word h = go (eqb (length word) 0) (leb (length word) 16) (list_all is_ascii_alphanumeric word) refl refl refl h where
  go : (a b c : Bool) → eqb (length word) 0 ≡ a → leb (length word) 16 ≡ b → list_all is_ascii_alphanumeric word ≡ c → (not a && (b && c)) ≡ true → is_wire word ≡ true
  go false true true p q r e =
      let some : leb 1 (length word) ≡ true = grind (arith, nat_tests) in
      rw (some, q, plain_bytes word r) refl
  go true b c p q r e = absurd cc
  go false false c p q r e = absurd cc
  go false true false p q r e = absurd cc
