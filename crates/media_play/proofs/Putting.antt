-- A write whose number is not used is a turn of an end.
use Rattle.std.proofs.Common.{◌≡◌, ℕ, ◌<◌, ◌^◌, Bool, true, false, not, cond, ◌||◌, leb, ltb, List, [], ◌∷◌, ◌++◌, length, Some, None, Option, refl, sym, ap, ◌∙◌, subst}
use Rattle.std.specs.Prelude.{◌==◌, nat_lt}
use Rattle.std.specs.List.{list_any, flat_map, AllByRecursion}
use Rattle.std.proofs.lemmas.Bool.{eqb-true, not-false, leb-false, ltb-false}
use Rattle.srtp_core.specs.Cipher.{CipherMeaning}
use Rattle.srtp_core.specs.Keys.{material_len}
use Rattle.stream_core.specs.Tables.{place_of, change_place}
use Rattle.stream_core.specs.TxRecord.{written}
use Rattle.session_core.specs.SessionRecord.{SessionState, SessionRecord}
use Rattle.session_turns.specs.Laws.{WritesTurn}
use Rattle.session_turns.specs.Mirrors.{IsGiven, write_at}
use Rattle.media_model.specs.declared.entry.Side.{Side}
use Rattle.media_model.specs.declared.entry.Write.{Write as Writing}
use Rattle.media_model.specs.declared.entry.Entry.{Entry}
use Rattle.media_model.specs.declared.entry.Entry.TheVariants.{Wrote}
use Rattle.media_model.specs.declared.setup.PayloadType.{PayloadType}
use Rattle.media_model.specs.declared.setup.Setup.{Setup}
use Rattle.media_model.specs.Entries.{writes_on}
use Rattle.media_model.specs.Setup.{streams_of, types_of, claimed_in, claimed_of, written_in, material_of}
use Rattle.run_model.specs.Events.{wrote}
use Rattle.run_model.specs.Tables.{Table}
use Rattle.run_model.specs.Whole.{Session}
use Rattle.rtp_wire.specs.BytesLaws.{AreWords}
use Rattle.setup_rules.specs.declared.fault.SetupFault.{SetupFault}
use Rattle.setup_rules.specs.declared.fault.SetupFault.TheVariants.{KeyLength, Mtu as MtuRule, Times, ExtId, TypeTwice}
use Rattle.setup_rules.specs.SetupRules.{setup_fault, repeats, any_ext_wrong, is_mtu, is_beyond}
use Rattle.media_laws.specs.declared.fault.StepFault.TheVariants.{UnknownStream, UnknownType, NumberTooBig, NumberUsed, PayloadTooLong, TooManySources}
use Rattle.media_laws.specs.Config.{config_of}
use Rattle.media_laws.specs.Keys.{sealing_of}
use Rattle.media_laws.specs.Rules.{has, write_fault}
use Rattle.media_play.specs.Ends.{EndSession, SessionStands}
use Rattle.media_play.specs.Knowing.{IsNoted, IsWrittenIn}
use Rattle.media_play.specs.Sessions.{EndState, ReadyAt, TurnsOn}
use Rattle.media_play.proofs.Knowings.{cond_none, distinct, stream_at, used_after}
use Rattle.run_model.specs.Listing.{IsIn}
use Rattle.media_play.proofs.Lists.{in-from_any}
use Rattle.media_play.proofs.StartingFit.{small_type}
use Rattle.media_play.proofs.StartingSetup.{types_claimed}
use Rattle.media_play.proofs.Turned.{turned}
use Rattle.media_play.proofs.Written.{turn_wrote, wrote_all, unused_all}

pub fault_none : (b : Bool) (fault : SetupFault) (other : Option SetupFault) → cond b (Some fault) other ≡ None → (b ≡ false) × (other ≡ None)
fault_none true fault other e = absurd cc
fault_none false fault other e = (refl, e)

pub neither : (a b : Bool) → (a || b) ≡ false → (a ≡ false) × (b ≡ false)
neither true b e = absurd cc
neither false b e = (refl, e)

-- types have 7 bits

pub types_small : (setup : Setup) → setup_fault setup ≡ None → list_any (nat_lt 127) (claimed_of setup) ≡ false
types_small setup e =
    let key = fault_none (not (length (material_of setup) == material_len setup.profile)) KeyLength _ e in
    let mtu = fault_none (not (is_mtu setup.mtu)) MtuRule _ key.1 in
    let time = fault_none (is_beyond setup) Times _ mtu.1 in
    let ids = fault_none (any_ext_wrong setup.exts) ExtId _ time.1 in
    let type = fault_none (list_any (nat_lt 127) (claimed_of setup) || repeats (claimed_of setup)) TypeTwice _ ids.1 in
    (neither _ _ type.0).0

type_small : (pt : ℕ) (ts : List PayloadType) → list_any (nat_lt 127) (flat_map claimed_in ts) ≡ false → has (flat_map written_in ts) pt ≡ true → pt < 2 ^ 7
type_small pt ts e h =
    let f = in-from_any (λ n. n == pt) (flat_map written_in ts) h in
    small_type (flat_map claimed_in ts) pt e (types_claimed ts pt (subst (λ n. IsIn n (flat_map written_in ts)) (eqb-true f.0 pt f.2) f.1))

-- what the rules say of a write

pub record Allowed (setup : Setup) (entries : List Entry) (side : Side) (w : Writing) : Type 0 where
  pub given : IsGiven w.ssrc w
  pub fresh : list_any (λ u. u.number == w.number) (writes_on side w.ssrc entries) ≡ false

pub allowed : (setup : Setup) (entries : List Entry) (side : Side) (w : Writing) → setup_fault setup ≡ None → write_fault setup entries side w ≡ None
    → (w.ssrc < 2 ^ 32) × (w.rtp_time < 2 ^ 32) × AreWords w.csrc → Allowed setup entries side w
allowed setup entries side w valid e fits =
    let e1 = cond_none (not (has (streams_of side setup) w.ssrc)) UnknownStream _ e in
    let e2 = cond_none (not (has (types_of setup) w.pt)) UnknownType _ e1.1 in
    let e3 = cond_none (leb (2 ^ 48) w.number) NumberTooBig _ e2.1 in
    let e4 = cond_none (list_any (λ u. u.number == w.number) (writes_on side w.ssrc entries)) NumberUsed _ e3.1 in
    let e5 = cond_none (ltb 1400 (length w.payload)) PayloadTooLong _ e4.1 in
    let e6 = cond_none (ltb 15 (length w.csrc)) TooManySources _ e5.1 in
    record {
      given = record {
        on = refl;
        word = fits.0;
        number = leb-false (2 ^ 48) w.number e3.0;
        time = fits.1;
        pt = type_small w.pt setup.types (types_small setup valid) (not-false _ e2.0);
        few = ltb-false 15 (length w.csrc) e6.0;
        sources = fits.2;
        payload = ltb-false 1400 (length w.payload) e5.0;
      };
      fresh = e4.0;
    }

pub turned_wrote : {cipher : CipherMeaning} {setup : Setup} {side : Side} {end : EndState} {a : Session} {entries : List Entry} {time : ℕ} → WritesTurn
    → ReadyAt cipher setup side end a entries time → (w : Writing) (place : ℕ) (new : EndState) → place_of w.ssrc end.session.state.tx ≡ Some place
    → write_fault setup entries side w ≡ None → (w.ssrc < 2 ^ 32) × (w.rtp_time < 2 ^ 32) × AreWords w.csrc
    → ◌≡◌ {A = EndSession} new.session (record end.session { state = record end.session.state { tx = change_place (written (write_at time w)) end.session.state.tx place } })
    → IsNoted place w.number end.written new.written
    → TurnsOn cipher setup side a new entries (Wrote side time w ∷ [])
turned_wrote {cipher} {setup} {side} {end} {a} {entries} {time} law at w place new there fault fits is noted =
    let ready = at.ready in
    let r = ready.session in
    let ok = allowed setup entries side w at.valid fault fits in
    let after : SessionRecord = record r { state = record r.state { tx = change_place (written (write_at time w)) r.state.tx place } } in
    let here : place_of w.ssrc r.state.tx ≡ Some place = ap (λ (s : SessionState). place_of w.ssrc s.tx) (sym ready.stands.state) ∙ there in
    let stands : SessionStands new.session after = subst (λ (v : EndSession). SessionStands v after) (sym is) (record {
      state = ap (λ (s : SessionState). record s { tx = change_place (written (write_at time w)) s.tx place }) ready.stands.state;
      rx = ready.stands.rx;
      known = ready.stands.known;
      probes = ready.stands.probes;
      seen = ready.stands.seen;
      repairs = ready.stands.repairs;
    }) in
    let t = law cipher (config_of (sealing_of cipher setup) setup) side r a place time w ready.fit ready.mirrors at.late ok.given (unused_all side entries w ok.fresh a.tx ready.wrote) here in
    turned ready new after (Wrote side time w ∷ []) (wrote time w ∷ []) refl stands
    (used_after side entries time w (streams_of side setup) place end.written new.written (distinct ready) (stream_at ready w.ssrc place there) noted ready.used)
    t (subst (λ (xs : Table). AllByRecursion (IsWrittenIn side (entries ++ Wrote side time w ∷ [])) xs) (sym (turn_wrote t.turn time w refl)) (wrote_all side entries time w a.tx ready.wrote))
