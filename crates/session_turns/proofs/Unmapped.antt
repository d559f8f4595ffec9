-- In a run no datagram maps to a stream: its media sections expect none but those that are declared.
use Rattle.std.proofs.Common.{◌≡◌, ◌⊎◌, inl, inr, ℕ, Bool, true, false, cond, List, [], ◌∷◌, Option, Some, None, is_some, is_none, refl, sym, ap, subst, ◌∙◌}
use Rattle.std.specs.Prelude.{◌==◌, ◌||◌, ◌&&◌, not, option_and_then, unwrap_or, find, if◌then◌else◌}
use Rattle.std.specs.List.{AllByRecursion}
use Rattle.std.specs.Cmp.Lexicographic.{pointwise}
use Rattle.std.specs.Option.{option_map, option_map_or}
use Rattle.std.proofs.lemmas.Bool.{eqb-true, false≢true, cases_Bool}
use Rattle.mapping_core.specs.Claims.{claim_of, is_number}
use Rattle.mapping_core.specs.Expecting.{expects}
use Rattle.mapping_core.specs.Mapped.{or_else, when, probe_rule, main_rule, mid_rule, section_rule, type_rule, rid_rule, no_rid_rule, packet_rule, repair_rule, is_unexpected, is_early_padding, repairs_expected, has_rtx}
use Rattle.mapping_core.specs.Streams.{has_main, has_repairs}
use Rattle.mapping_core.specs.declared.claim.TypeClaim.{TypeClaim}
use Rattle.mapping_core.specs.declared.mapping.Mapping.{Mapping}
use Rattle.mapping_core.specs.declared.mapping.Mapping.TheVariants.{Main, Repairs, NewStream, NewMain, NewRepairs, Nowhere}
use Rattle.mapping_core.specs.declared.mapping.Unmapped.TheVariants.{Probe, NoMid, UnclaimedType, UnexpectedRid, RidMissing}
use Rattle.mapping_core.specs.declared.rids.Rids.{Rids}
use Rattle.mapping_core.specs.declared.rids.Rids.TheVariants.{Specific}
use Rattle.mapping_core.specs.declared.stream.IncomingStream.{IncomingStream}
use Rattle.rtp_wire.specs.declared.header.RtpHeader.{RtpHeader}
use Rattle.stream_core.specs.Repairing.{claims_in}
use Rattle.stream_core.specs.StreamsRecord.{taken_up}
use Rattle.stream_core.specs.Tables.{place_of}
use Rattle.srtp_core.specs.Cipher.{CipherMeaning}
use Rattle.session_core.specs.declared.datagram.Opened.{Opened as Opening}
use Rattle.session_core.specs.Receiving.{Opens, OpensRepair, opening_of, after_opened, after_repaired, Takes, takes_packet, takes_repair, takes_nothing, Receives, opened, repaired, padding, stays}
use Rattle.session_core.specs.Mapping.{rids_for, is_standing, mapped_in, mapping_for, taken_up_for}
use Rattle.session_core.specs.Medias.{media_of}
use Rattle.session_core.specs.SessionRecord.{MediaRecord, SessionRecord, streams_in, with_incoming}
use Rattle.session_turns.specs.Laws.{MapsNothing}
use Rattle.session_turns.specs.Mirrors.{ExpectsNone, HasOriginal}

-- a mapping of which nothing is taken up
abbrev Quiet : Mapping → Type 0
Quiet (Main ssrc) = Unit {0}
Quiet (Nowhere why) = Unit {0}
Quiet (Repairs ssrc) = ⊥
Quiet (NewStream s) = ⊥
Quiet (NewMain c) = ⊥
Quiet (NewRepairs c) = ⊥

quiet_same : (ssrc : ℕ) (m : Mapping) (r : SessionRecord) → Quiet m → with_incoming (taken_up ssrc m (streams_in r)) r ≡ r
quiet_same ssrc (Main main) r q = refl
quiet_same ssrc (Nowhere why) r q = refl
quiet_same ssrc (Repairs main) r q = absurd q
quiet_same ssrc (NewStream s) r q = absurd q
quiet_same ssrc (NewMain c) r q = absurd q
quiet_same ssrc (NewRepairs c) r q = absurd q

abbrev Answers : Option Mapping → Type 0
Answers o = Quiet (unwrap_or o (Nowhere NoMid))

-- a rule that is quiet, before others
before : (rule rest : Option Mapping) → Answers rule → Answers rest → Answers (or_else rule rest)
before None rest q a = a
before (Some m) rest q a = q

when_quiet : (b : Bool) (m : Mapping) → Quiet m → Answers (when b m)
when_quiet true m q = q
when_quiet false m q = tt

-- a media section that expects no rid refuses each, and one without
module _ (types : List TypeClaim) (h : RtpHeader) (rest : Option Mapping) where
  by_rids : (rid repaired : Option (List ℕ)) (none : List (List ℕ)) → none ≡ []
      → Answers (or_else (when (is_unexpected (Specific none) rid || is_unexpected (Specific none) repaired) (Nowhere UnexpectedRid))
      (or_else (when (not (is_some rid || is_some repaired) && true) (Nowhere RidMissing)) rest))
  by_rids None None none e = tt
  by_rids None (Some b) none e = subst (λ l. Answers (or_else (when (is_unexpected (Specific l) None || is_unexpected (Specific l) (Some b)) (Nowhere UnexpectedRid)) (or_else (when false (Nowhere RidMissing)) rest))) (sym e) tt
  by_rids (Some a) b none e = subst (λ l. Answers (or_else (when (is_unexpected (Specific l) (Some a) || is_unexpected (Specific l) b) (Nowhere UnexpectedRid)) (or_else (when (not (true || is_some b) && true) (Nowhere RidMissing)) rest))) (sym e) tt

  behind_section : (rids : Option Rids) → ((e : Rids) → rids ≡ Some e → e ≡ Specific [])
      → Answers (or_else (section_rule rids) (or_else (type_rule types h) (or_else (rid_rule rids h) (or_else (no_rid_rule rids h) rest))))
  behind_section None known = tt
  behind_section (Some e) known =
      before (type_rule types h) _ (when_quiet (is_none (claim_of types h.payload_type)) (Nowhere UnclaimedType) tt)
      (subst (λ (x : Rids). Answers (or_else (rid_rule (Some x) h) (or_else (no_rid_rule (Some x) h) rest))) (sym (known e refl)) (by_rids h.ext_vals.rid h.ext_vals.rid_repair [] refl))

found_by : (b : Bool) (n : MediaRecord) (o : Option MediaRecord) (m : MediaRecord) → cond b (Some n) o ≡ Some m → (n ≡ m) ⊎ (o ≡ Some m)
found_by true n o m e = inl cc
found_by false n o m e = inr e

no_rids : (test : MediaRecord → Bool) (ms : List MediaRecord) → AllByRecursion ExpectsNone ms → (m : MediaRecord) → find test ms ≡ Some m → m.rids ≡ Specific []
no_rids test [] all m is = absurd cc
no_rids test (n ∷ ms) all m is = elim (found_by (test n) n (find test ms) m is) [
  | inl same ↦ ap (λ (k : MediaRecord). k.rids) (sym same) ∙ all.0
  | inr more ↦ no_rids test ms all.1 m more
]

module _ (r : SessionRecord) (sections : AllByRecursion ExpectsNone r.state.medias) (known : AllByRecursion (HasOriginal r.known.originals) r.known.streams) (h : RtpHeader) where
  rids_of : (o : Option MediaRecord) → ((m : MediaRecord) → o ≡ Some m → m.rids ≡ Specific []) → (e : Rids) → option_map (λ (m : MediaRecord). m.rids) o ≡ Some e → e ≡ Specific []
  rids_of None says e is = absurd cc
  rids_of (Some m) says e is = let same : m.rids ≡ e = cc in sym same ∙ says m refl

  rids_by : (o : Option (List ℕ)) (e : Rids) → option_map (λ (m : MediaRecord). m.rids) (option_and_then (λ mid. media_of mid r.state.medias) o) ≡ Some e → e ≡ Specific []
  rids_by None e is = absurd cc
  rids_by (Some mid) e is = rids_of (media_of mid r.state.medias) (no_rids (λ m. pointwise ◌==◌ m.mid mid) r.state.medias sections) e is

  no_rid : (e : Rids) → rids_for h r.state.medias ≡ Some e → e ≡ Specific []
  no_rid e is = rids_by h.ext_vals.mid e is

  -- a stream whose repairs come under an SSRC has that one in the table
  in_table : (o : Option ℕ) (ssrc : ℕ) → ((rtx : ℕ) → o ≡ Some rtx → is_some (place_of rtx r.known.originals) ≡ true) → is_number o ssrc ≡ true → is_some (place_of ssrc r.known.originals) ≡ true
  in_table None ssrc has is = absurd cc
  in_table (Some rtx) ssrc has is = ap (λ (k : ℕ). is_some (place_of k r.known.originals)) (sym (eqb-true rtx ssrc is)) ∙ has rtx refl

  none_repairs : (streams : List IncomingStream) → AllByRecursion (HasOriginal r.known.originals) streams → is_some (place_of h.ssrc r.known.originals) ≡ false → find (has_repairs h.ssrc) streams ≡ None
  none_repairs [] all away = refl
  none_repairs (s ∷ ss) all away = elim (cases_Bool (is_number s.rtx h.ssrc)) [
    | inl t ↦ absurd (false≢true (sym away ∙ in_table s.rtx h.ssrc all.0 t))
    | inr t ↦ ap (λ b. cond b (Some s) (find (has_repairs h.ssrc) ss)) t ∙ none_repairs ss all.1 away
  ]

  or_none : (a b : Bool) → (a || b) ≡ false → (a ≡ false) × (b ≡ false)
  or_none true b e = absurd cc
  or_none false b e = (refl, e)

  main_quiet : (o : Option IncomingStream) (rest : Option Mapping) → Answers rest → Answers (or_else (option_map (λ (s : IncomingStream). Main s.ssrc) o) rest)
  main_quiet None rest a = a
  main_quiet (Some s) rest a = tt

  -- what the rules say of an SSRC that no stream has
  abbrev by_section : Option Mapping
  by_section =
      or_else (section_rule (rids_for h r.state.medias)) (or_else (type_rule (claims_in r.state.types) h) (or_else (rid_rule (rids_for h r.state.medias) h)
      (or_else (no_rid_rule (rids_for h r.state.medias) h) (or_else (packet_rule (claims_in r.state.types) r.known.streams h) (or_else (repair_rule r.known.streams h) None)))))

  abbrev by_mid : Option Mapping
  by_mid = or_else (mid_rule h) by_section

  quiet_section : Answers by_section
  quiet_section =
      behind_section (claims_in r.state.types) h (or_else (packet_rule (claims_in r.state.types) r.known.streams h) (or_else (repair_rule r.known.streams h) None))
      (rids_for h r.state.medias) no_rid

  quiet_mid : Answers by_mid
  quiet_mid = before (mid_rule h) by_section (when_quiet (is_none h.ext_vals.mid) (Nowhere NoMid) tt) quiet_section

  abbrev by_repairs : Option IncomingStream → Option Mapping
  by_repairs o = or_else (option_map (λ (s : IncomingStream). Repairs s.ssrc) o) by_mid

  quiet_strange : is_some (place_of h.ssrc r.known.originals) ≡ false → Quiet (mapped_in h r)
  quiet_strange away =
      before (probe_rule h) (or_else (main_rule r.known.streams h) (by_repairs (find (has_repairs h.ssrc) r.known.streams))) (when_quiet (h.ssrc == 0) (Nowhere Probe) tt)
      (main_quiet (find (has_main h.ssrc) r.known.streams) (by_repairs (find (has_repairs h.ssrc) r.known.streams))
      (subst (λ (o : Option IncomingStream). Answers (by_repairs o)) (sym (none_repairs r.known.streams known away)) quiet_mid))

  quiet_by : (b : Bool) → is_standing h.ssrc r.rx r.known.originals ≡ b → Quiet (if b then Main h.ssrc else mapped_in h r)
  quiet_by true e = tt
  quiet_by false e = quiet_strange (or_none (is_some (place_of h.ssrc r.rx)) _ (or_none (h.ssrc == 0) _ e).1).1

  taken_same : taken_up_for h r ≡ r
  taken_same = quiet_same h.ssrc (mapping_for h r) r (quiet_by (is_standing h.ssrc r.rx r.known.originals) refl)

  -- nor does anything open as padding of a stream to come
  none_expected : (rids : Option Rids) → ((e : Rids) → rids ≡ Some e → e ≡ Specific []) → repairs_expected rids h ≡ false
  none_expected None says = refl
  none_expected (Some e) says = ap (λ (x : Rids). option_map_or (expects x) h.ext_vals.rid_repair false) (says e refl) ∙ go h.ext_vals.rid_repair
    where
      go : (o : Option (List ℕ)) → option_map_or (expects (Specific [])) o false ≡ false
      go None = refl
      go (Some a) = refl

  and_false : (a b c : Bool) → (a && b && false && c) ≡ false
  and_false true true c = refl
  and_false true false c = refl
  and_false false b c = refl

  no_padding : is_early_padding (rids_for h r.state.medias) (claims_in r.state.types) h ≡ true → ⊥
  no_padding e =
      let known_type = has_rtx (claims_in r.state.types) h in
      let never = ap (λ b. h.has_padding && is_none h.ext_vals.rid && b && known_type) (none_expected (rids_for h r.state.medias) no_rid) ∙ and_false h.has_padding (is_none h.ext_vals.rid) known_type in
      false≢true (sym never ∙ e)

-- so bytes make of a session what they make of one whose tables have their SSRC
module _ (cipher : CipherMeaning) (r : SessionRecord) (sections : AllByRecursion ExpectsNone r.state.medias) (known : AllByRecursion (HasOriginal r.known.originals) r.known.streams)
    (bytes : List ℕ) (time : ℕ) where
  same : (h : RtpHeader) → taken_up_for h r ≡ r
  same h = taken_same r sections known h

  takes : (after : SessionRecord) (o : Option Opening) → Receives cipher r bytes time after o → Takes cipher r bytes time after o
  takes _ _ (opened h n payload o) =
      subst (λ (u : SessionRecord). Takes cipher r bytes time (after_opened time h n payload u) (Some (opening_of bytes h n payload))) (sym (same h))
      (takes_packet h n payload (subst (λ (u : SessionRecord). Opens cipher u bytes h n payload) (same h) o))
  takes _ _ (repaired h original n payload o) =
      subst (λ (u : SessionRecord). Takes cipher r bytes time (after_repaired time h original n payload u) (Some (opening_of bytes h n payload))) (sym (same h))
      (takes_repair h original n payload (subst (λ (u : SessionRecord). OpensRepair cipher u bytes h original n payload) (same h) o))
  takes _ _ (padding h n payload o) = absurd (no_padding r sections known h o.early)
  takes _ _ (stays no_packet no_repair no_early) =
      takes_nothing
      (λ h n payload o. no_packet h n payload (subst (λ (u : SessionRecord). Opens cipher u bytes h n payload) (sym (same h)) o))
      (λ h original n payload o. no_repair h original n payload (subst (λ (u : SessionRecord). OpensRepair cipher u bytes h original n payload) (sym (same h)) o))

pub maps_nothing : MapsNothing
maps_nothing cipher C side r after a time bytes o mirrors receives = takes cipher r mirrors.sections mirrors.known bytes time after o receives
