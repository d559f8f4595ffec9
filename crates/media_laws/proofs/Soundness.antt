-- A setup that breaks no rule gives plain sessions for which the laws of runs hold.
use Rattle.std.proofs.Common.{◌≡◌, inl, inr, Bool, true, false, not, cond, ◌||◌, ℕ, ◌%◌, List, [], ◌∷◌, ◌++◌, length, take, drop, Option, Some, None, refl, sym, ap, ◌∙◌, subst}
use Rattle.std.specs.Prelude.{◌==◌, nat_lt, find, option_to_list, unwrap_or}
use Rattle.std.specs.List.{flat_map, filter_map, list_any}
use Rattle.std.specs.Option.{option_map, option_and_then}
use Rattle.std.proofs.lemmas.Bool.{eqb-true, eq-eqb, or_cases, false≢true}
use Rattle.std.proofs.lemmas.List.{take-append-drop}
use Rattle.std.proofs.lemmas.List.Elements.{filter_map-append}
use Rattle.rtp_wire.specs.declared.header.RtpHeader.{RtpHeader}
use Rattle.srtp_core.specs.Keys.{material_len}
use Rattle.run_model.specs.Transcripts.{read_of, types_of, has_type, is_type, repairs_as, outgoing_as, outgoing_in}
use Rattle.media_model.specs.declared.entry.Side.{Side}
use Rattle.media_model.specs.declared.setup.PayloadType.{PayloadType}
use Rattle.media_model.specs.declared.setup.Stream.{Stream}
use Rattle.media_model.specs.declared.setup.Media.{Media}
use Rattle.media_model.specs.declared.setup.Setup.{Setup}
use Rattle.media_model.specs.Setup.{material_of, claimed_in, claimed_of, cache_of}
use Rattle.media_model.specs.Sides.{same_side}
use Rattle.setup_rules.specs.declared.fault.SetupFault.{SetupFault}
use Rattle.setup_rules.specs.declared.fault.SetupFault.TheVariants.{KeyLength, Mtu as MtuRule, Times, ExtId, TypeTwice, SsrcZero, SsrcTwice}
use Rattle.setup_rules.specs.SetupRules.{has as has_number, setup_fault, repeats, any_ext_wrong, is_mtu, is_beyond, all_ssrcs, all_streams, both_of}
use Rattle.run_model.specs.Events.{Plain, Outgoing}
use Rattle.run_model.specs.Listing.{IsIn, NoRepeat}
use Rattle.run_model.specs.Runs.{SealsApart, TypesPair}
use Rattle.run_model.specs.Seals.{IsSeal}
use Rattle.run_model.specs.Tables.{has, AllStrange, AreApart}
use Rattle.run_model.specs.TxPlay.{IsApart}
use Rattle.run_model.specs.Whole.{IsSound, HeadsApart}
use Rattle.media_laws.proofs.Lists.{IsIn-left, IsIn-right, tested, any-from_in, in-from_any}
use Rattle.media_laws.specs.Config.{rtp_sealing, config_of}
use Rattle.media_laws.specs.Opening.{Sealing}
use Rattle.media_laws.specs.Plain.{read_header}
use Rattle.media_laws.proofs.WireLaws.{WireLaws}
use Rattle.rtp_base.specs.Window.{is_just}

fault_none : (b : Bool) (fault : SetupFault) (other : Option SetupFault) → cond b (Some fault) other ≡ None → (b ≡ false) × (other ≡ None)
fault_none true fault other e = absurd cc
fault_none false fault other e = (refl, e)

neither : (a b : Bool) → (a || b) ≡ false → (a ≡ false) × (b ≡ false)
neither true b e = absurd cc
neither false b e = (refl, e)

has_in : (xs : List ℕ) (n : ℕ) → IsIn n xs → has_number xs n ≡ true
has_in xs n i = any-from_in (λ x. x == n) n xs i (eq-eqb n n refl)

no_repeats : (xs : List ℕ) → repeats xs ≡ false → NoRepeat xs
no_repeats [] e = tt
no_repeats (x ∷ xs) e =
    let both = neither (has_number xs x) (repeats xs) e in
    (λ i. false≢true (sym both.0 ∙ has_in xs x i), no_repeats xs both.1)

pub NoRepeat-right : {X : Type 0} (xs ys : List X) → NoRepeat (xs ++ ys) → NoRepeat ys
NoRepeat-right [] ys h = h
NoRepeat-right (x ∷ xs) ys h = NoRepeat-right xs ys h.1

-- what the rules of a setup say of its types and SSRCs
record Facts (setup : Setup) : Type 0 where
  pub types : NoRepeat (claimed_of setup)
  pub ssrcs : NoRepeat (flat_map both_of (all_streams setup))
  pub nonzero : has_number (flat_map both_of (all_streams setup)) 0 ≡ false

facts : (setup : Setup) → setup_fault setup ≡ None → Facts setup
facts setup e =
    let key = fault_none (not (length (material_of setup) == material_len setup.profile)) KeyLength _ e in
    let mtu = fault_none (not (is_mtu setup.mtu)) MtuRule _ key.1 in
    let time = fault_none (is_beyond setup) Times _ mtu.1 in
    let ids = fault_none (any_ext_wrong setup.exts) ExtId _ time.1 in
    let type = fault_none (list_any (nat_lt 127) (claimed_of setup) || repeats (claimed_of setup)) TypeTwice _ ids.1 in
    let zero = fault_none (has_number (all_ssrcs setup) 0) SsrcZero _ type.1 in
    let twice = fault_none (repeats (all_ssrcs setup)) SsrcTwice _ zero.1 in
    record {
      types = no_repeats (claimed_of setup) (neither _ _ type.0).1;
      ssrcs = (no_repeats (all_ssrcs setup) twice.0).1.1;
      nonzero = elim (tested (has_number (flat_map both_of (all_streams setup)) 0)) [
        | inl t ↦
            let i = in-from_any (λ x. x == 0) (flat_map both_of (all_streams setup)) t in
            absurd (false≢true (sym zero.0 ∙ has_in (all_ssrcs setup) 0 (inr (inr (subst (λ n. IsIn n (flat_map both_of (all_streams setup))) (eqb-true i.0 0 i.2) i.1)))))
        | inr t ↦ t
      ];
    }

-- streams

is_just_in : (r : ℕ) (o : Option ℕ) → is_just r o ≡ true → IsIn r (option_to_list o)
is_just_in r None e = absurd (false≢true e)
is_just_in r (Some x) e = inl (sym (eqb-true x r e))

-- an SSRC of a stream
own_in : (r : ℕ) (s : Stream) → ((r == s.ssrc) || is_just r s.rtx) ≡ true → IsIn r (both_of s)
own_in r s e = elim (or_cases (r == s.ssrc) (is_just r s.rtx) e) [ inl t ↦ inl (eqb-true r s.ssrc t) | inr t ↦ inr (is_just_in r s.rtx t) ]

pub apart_ends : {X : Type 0} (xs ys : List X) (x : X) → NoRepeat (xs ++ ys) → IsIn x xs → IsIn x ys → ⊥
apart_ends [] ys x h i j = i
apart_ends (z ∷ xs) ys x h (inl e) j = h.0 (IsIn-right z xs ys (subst (λ w. IsIn w ys) e j))
apart_ends (z ∷ xs) ys x h (inr i) j = apart_ends xs ys x h.1 i j

module _ (setup : Setup) (side : Side) where
  line_of : Stream → Outgoing
  line_of s = outgoing_as setup s (cache_of s.ssrc setup)

  lines_in : (ss : List Stream) (M : Outgoing) → IsIn M (filter_map (outgoing_in setup side) ss) → (r : ℕ) → has M r ≡ true → IsIn r (flat_map both_of ss)
  unfolding line_of
  lines_in [] M i r e = absurd i
  lines_in (s ∷ ss) M i r e =
      elim (tested (same_side s.side side)) [
        | inl t ↦ elim (rw t at i) [
          | inl is ↦ IsIn-left r (both_of s) (flat_map both_of ss) (own_in r s (ap (λ (K : Outgoing). has K r) (sym is) ∙ e))
          | inr j ↦ IsIn-right r (both_of s) (flat_map both_of ss) (lines_in ss M j r e)
        ]
        | inr t ↦ IsIn-right r (both_of s) (flat_map both_of ss) (lines_in ss M (rw t at i) r e)
      ]

  strange_lines : (L : Outgoing) (Ms : List Outgoing) → ((M : Outgoing) → IsIn M Ms → (r : ℕ) → has L r ≡ true → has M r ≡ true → ⊥) → AllStrange L Ms
  strange_lines L [] h = tt
  strange_lines L (M ∷ Ms) h = (
    λ r own. elim (tested (has M r)) [ inl t ↦ absurd (h M (inl refl) r own t) | inr t ↦ t ],
    strange_lines L Ms (λ N i. h N (inr i)),
  )

  apart_line : (s : Stream) (rest : List ℕ) → NoRepeat (both_of s ++ rest) → IsApart (outgoing_as setup s (cache_of s.ssrc setup))
  apart_line s rest h = elim (tested (is_just s.ssrc s.rtx)) [
    | inl t ↦ absurd (h.0 (IsIn-left s.ssrc (option_to_list s.rtx) rest (is_just_in s.ssrc s.rtx t)))
    | inr t ↦ t
  ]

  lines_apart : (ss : List Stream) → NoRepeat (flat_map both_of ss) → AreApart (filter_map (outgoing_in setup side) ss)
  lines_apart [] h = tt
  lines_apart (s ∷ ss) h =
      let rest = lines_apart ss (NoRepeat-right (both_of s) (flat_map both_of ss) h) in
      elim (tested (same_side s.side side)) [
        | inl t ↦ rw t (
          apart_line s (flat_map both_of ss) h,
          (
            strange_lines (outgoing_as setup s (cache_of s.ssrc setup)) (filter_map (outgoing_in setup side) ss)
                (λ M i r own other. apart_ends (both_of s) (flat_map both_of ss) r h (own_in r s own) (lines_in ss M i r other)),
            rest,
          ),
        )
        | inr t ↦ rw t rest
      ]

  all_lines : (ms : List Media) → flat_map (λ (m : Media). filter_map (outgoing_in setup side) m.streams) ms ≡ filter_map (outgoing_in setup side) (flat_map (λ (m : Media). m.streams) ms)
  all_lines [] = refl
  all_lines (m ∷ ms) =
      ap (λ (ls : List Outgoing). filter_map (outgoing_in setup side) m.streams ++ ls) (all_lines ms)
      ∙ sym (filter_map-append (outgoing_in setup side) m.streams (flat_map (λ (n : Media). n.streams) ms))

-- types

pub type_in : (t : PayloadType) (rtx : ℕ) → is_type rtx t.rtx ≡ true → IsIn rtx (option_to_list t.rtx)
type_in t rtx e = go t.rtx e
  where
    go : (o : Option ℕ) → is_type rtx o ≡ true → IsIn rtx (option_to_list o)
    go None h = absurd (false≢true h)
    go (Some x) h = inl (sym (eqb-true x rtx h))

pub repairs_claimed : (t : PayloadType) (rtx : ℕ) → is_type rtx t.rtx ≡ true → IsIn rtx (claimed_in t)
repairs_claimed t rtx e = inr (IsIn-left rtx (option_to_list t.rtx) (option_to_list t.red) (type_in t rtx e))

module _ (pt rtx : ℕ) where
  found_type : (ts : List PayloadType) → option_and_then (λ (t : PayloadType). t.rtx) (find (has_type pt) ts) ≡ Some rtx → NoRepeat (flat_map claimed_in ts)
      → IsIn rtx (flat_map claimed_in ts) × (option_map (λ (t : PayloadType). t.pt) (find (repairs_as rtx) ts) ≡ Some pt)
  found_type [] e h = absurd cc
  found_type (t ∷ ts) e h =
      elim (tested (has_type pt t)) [
        | inl is ↦
            let own : t.rtx ≡ Some rtx = rw is at e in
            let repairs : repairs_as rtx t ≡ true = ap (is_type rtx) own ∙ eq-eqb rtx rtx refl in
            (IsIn-left rtx (claimed_in t) (flat_map claimed_in ts) (repairs_claimed t rtx repairs), rw repairs (ap (λ n. Some n) (eqb-true t.pt pt is)))
        | inr is ↦
            let r = found_type ts (rw is at e) (NoRepeat-right (claimed_in t) (flat_map claimed_in ts) h) in (
              IsIn-right rtx (claimed_in t) (flat_map claimed_in ts) r.0,
              elim (tested (repairs_as rtx t)) [
                | inl k ↦ absurd (apart_ends (claimed_in t) (flat_map claimed_in ts) rtx h (repairs_claimed t rtx k) r.0)
                | inr k ↦ rw k r.1
              ],
            )
      ]

pub types_pair : (setup : Setup) → NoRepeat (claimed_of setup) → TypesPair (types_of setup)
types_pair setup h pt rtx e = ap (λ o. unwrap_or o rtx) (found_type pt rtx setup.types e h).1

-- seals

module _ {seal : Sealing} {setup : Setup} (wire : WireLaws seal setup) (side : Side) where
  -- a header that was read of a plain datagram
  pub record Read (bytes : List ℕ) (r n : ℕ) (p : Plain) : Type 0 where
    pub plain : List ℕ
    pub header : RtpHeader
    pub reads : read_header setup plain ≡ Some header
    pub tells : read_of header plain ≡ (r, n % 65536, p)
    pub sealed : seal.rtp side r n plain ≡ bytes
    pub reads_bytes : read_header setup bytes ≡ Some header

  read_so : {bytes : List ℕ} {r n : ℕ} {p : Plain} (plain : List ℕ) (o : Option RtpHeader) → read_header setup plain ≡ o → option_map (λ h. read_of h plain) o ≡ Some (r, n % 65536, p)
      → seal.rtp side r n plain ≡ bytes → Read bytes r n p
  read_so plain None is e sealed = absurd cc
  read_so {bytes} {r} {n} plain (Some h) is e sealed =
      let len = h.header_len in
      let front : take len bytes ≡ take len plain = ap (take len) (sym sealed) ∙ wire.front side r n plain h is in
      let whole : take len plain ++ drop len bytes ≡ bytes = ap (λ l. l ++ drop len bytes) (sym front) ∙ take-append-drop len bytes in
      record {
        plain = plain;
        header = h;
        reads = is;
        tells = cc;
        sealed = sealed;
        reads_bytes = ap (read_header setup) (sym whole) ∙ wire.by_front plain (drop len bytes) h is;
      }

  pub read_seal : {bytes : List ℕ} {r n : ℕ} {p : Plain} → IsSeal (rtp_sealing seal setup side) r n p bytes → Read bytes r n p
  read_seal s = read_so s.plain (read_header setup s.plain) refl s.reads s.sealed

  heads_apart : HeadsApart (rtp_sealing seal setup side)
  heads_apart = record {
    ssrc = λ r n s m p q bytes a b. (same r n s m p q bytes a b).0;
    low = λ r n s m p q bytes a b. (same r n s m p q bytes a b).1;
    type = λ r n s m p q bytes a b. (same r n s m p q bytes a b).2;
  }
    where
      same : (r n s m : ℕ) (p q : Plain) (bytes : List ℕ) → IsSeal (rtp_sealing seal setup side) r n p bytes → IsSeal (rtp_sealing seal setup side) s m q bytes → (r ≡ s) × (n % 65536 ≡ m % 65536) × (p.pt ≡ q.pt)
      same r n s m p q bytes a b =
          let x = read_seal a in
          let y = read_seal b in
          let e : x.header ≡ y.header = let u = x.reads_bytes in let v = y.reads_bytes in cc (u, v) in
          let t = x.tells in
          let u = y.tells in (
            ap (λ (z : ℕ × ℕ × Plain). z.0) (sym t) ∙ ap (λ (h : RtpHeader). h.ssrc) e ∙ ap (λ (z : ℕ × ℕ × Plain). z.0) u,
            ap (λ (z : ℕ × ℕ × Plain). z.1) (sym t) ∙ ap (λ (h : RtpHeader). h.sequence_number) e ∙ ap (λ (z : ℕ × ℕ × Plain). z.1) u,
            ap (λ (z : ℕ × ℕ × Plain). z.2.pt) (sym t) ∙ ap (λ (h : RtpHeader). h.payload_type) e ∙ ap (λ (z : ℕ × ℕ × Plain). z.2.pt) u,
          )

  seals_apart : SealsApart (rtp_sealing seal setup side)
  seals_apart ssrc n p q bytes a b =
      let x = read_seal a in
      let y = read_seal b in
      let e : x.header ≡ y.header = let u = x.reads_bytes in let v = y.reads_bytes in cc (u, v) in
      let plain : x.plain ≡ y.plain = wire.apart side ssrc n x.plain y.plain x.header x.reads (y.reads ∙ ap (λ h. Some h) (sym e)) (x.sealed ∙ sym y.sealed) in
      let t = x.tells in
      let u = y.tells in
      ap (λ (z : ℕ × ℕ × Plain). z.2) (sym t) ∙ (λ i. (read_of (e i) (plain i)).2) ∙ ap (λ (z : ℕ × ℕ × Plain). z.2) u

pub sound_heads : {seal : Sealing} {setup : Setup} → WireLaws seal setup → (side : Side) → HeadsApart ((config_of seal setup).seals side)
sound_heads wire side = heads_apart wire side

pub sound_config : {seal : Sealing} {setup : Setup} → WireLaws seal setup → setup_fault setup ≡ None → IsSound (config_of seal setup)
sound_config {seal} {setup} wire e =
    let f = facts setup e in
    record {
      apart = λ side. subst AreApart (sym (all_lines setup side setup.media)) (lines_apart setup side (all_streams setup) f.ssrcs);
      nonzero = λ side M i. elim (tested (has M 0)) [
        | inl t ↦ absurd (false≢true (sym f.nonzero ∙ has_in (flat_map both_of (all_streams setup)) 0 (lines_in setup side (all_streams setup) M (subst (IsIn M) (all_lines setup side setup.media) i) 0 t)))
        | inr t ↦ t
      ];
      seals = λ side. seals_apart wire side;
      types = types_pair setup f.types;
    }

pub sound_types : (setup : Setup) → setup_fault setup ≡ None → NoRepeat (claimed_of setup)
sound_types setup e = (facts setup e).types
