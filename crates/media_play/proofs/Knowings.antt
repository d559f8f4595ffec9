-- What an end knows of a write, and what it knows after it.
use Rattle.std.proofs.Common.{◌≡◌, inl, inr, ℕ, zero, suc, ◌<◌, ◌≤◌, ◌^◌, Bool, true, false, cond, ◌&&◌, ◌||◌, leb, ltb, List, [], ◌∷◌, ◌++◌, length, map, set, get_or, slice_get, Option, Some, None, is_some, refl, sym, ap, ◌∙◌, subst, arith}
use Rattle.std.specs.Prelude.{◌==◌}
use Rattle.std.specs.List.{list_any, flat_map, filter_map, AllZip}
use Rattle.std.specs.Map.{keys_of}
use Rattle.std.proofs.lemmas.List.{append-nil, map-append}
use Rattle.std.proofs.lemmas.Bool.{and_parts, eqb-true, eq-eqb, false_from_ne_true, false≢true}
use Rattle.std.proofs.lemmas.Option.{none-some, same_Some}
use Rattle.srtp_core.specs.Cipher.{CipherMeaning}
use Rattle.stream_core.specs.declared.payload_types.TypeRow.{TypeRow}
use Rattle.stream_core.specs.Repairing.{RepairsRecord}
use Rattle.stream_core.specs.Tables.{place_of}
use Rattle.stream_core.specs.TxRecord.{TxRecord as StreamTx}
use Rattle.session_core.specs.SessionRecord.{MediaRecord, SessionState}
use Rattle.session_turns.specs.Mirrors.{TxMirrors}
use Rattle.media_model.specs.declared.entry.Side.{Side}
use Rattle.media_model.specs.declared.entry.Write.{Write as Writing}
use Rattle.media_model.specs.declared.entry.Entry.{Entry}
use Rattle.media_model.specs.declared.entry.Entry.TheVariants.{Wrote}
use Rattle.media_model.specs.declared.setup.Media.{Media}
use Rattle.media_model.specs.declared.setup.Stream.{Stream}
use Rattle.media_model.specs.declared.setup.Setup.{Setup}
use Rattle.media_model.specs.Entries.{writes_on}
use Rattle.media_model.specs.Setup.{streams_of, types_of, main_in}
use Rattle.media_model.specs.Sides.{same_side}
use Rattle.run_model.specs.Events.{Outgoing}
use Rattle.run_model.specs.Tables.{AreApart, AllStrange, has as has_ssrc, lines}
use Rattle.run_model.specs.Transcripts.{outgoing_of, outgoing_in}
use Rattle.run_model.specs.TxPlay.{TxRecord}
use Rattle.run_model.specs.Whole.{Session}
use Rattle.media_laws.specs.declared.fault.StepFault.{StepFault}
use Rattle.media_laws.specs.declared.fault.StepFault.TheVariants.{UnknownStream, UnknownType, NumberTooBig, NumberUsed, PayloadTooLong, TooManySources}
use Rattle.media_laws.specs.Listing.{IsIn, NoRepeat}
use Rattle.media_laws.specs.Rules.{has, write_fault}
use Rattle.media_play.specs.declared.numbers.Numbers.{Numbers}
use Rattle.media_play.specs.Knowing.{UsedAs, has_number, has_written, IsNoted}
use Rattle.media_play.specs.Sessions.{EndState, Ready}
use Rattle.media_play.proofs.Keys.{key_at, key_absent, in_from_get, has_from_get, zip_at, zip_weaker}
use Rattle.media_play.proofs.Lists.{tested}
use Rattle.media_play.proofs.Written.{writes_more, same_self}

pub cond_none : (b : Bool) (fault : StepFault) (other : Option StepFault) → cond b (Some fault) other ≡ None → (b ≡ false) × (other ≡ None)
cond_none true fault other e = absurd cc
cond_none false fault other e = (refl, e)

pub rule_stream : (setup : Setup) (entries : List Entry) (side : Side) (w : Writing) → has (streams_of side setup) w.ssrc ≡ false
    → write_fault setup entries side w ≡ Some UnknownStream
rule_stream setup entries side w stream = rw stream refl

pub rule_type : (setup : Setup) (entries : List Entry) (side : Side) (w : Writing) → has (streams_of side setup) w.ssrc ≡ true → has (types_of setup) w.pt ≡ false
    → write_fault setup entries side w ≡ Some UnknownType
rule_type setup entries side w stream type = rw (stream, type) refl

pub rule_number : (setup : Setup) (entries : List Entry) (side : Side) (w : Writing) → has (streams_of side setup) w.ssrc ≡ true → has (types_of setup) w.pt ≡ true
    → leb (2 ^ 48) w.number ≡ true
    → write_fault setup entries side w ≡ Some NumberTooBig
rule_number setup entries side w stream type number = rw (stream, type, number) refl

pub rule_used : (setup : Setup) (entries : List Entry) (side : Side) (w : Writing) → has (streams_of side setup) w.ssrc ≡ true → has (types_of setup) w.pt ≡ true
    → leb (2 ^ 48) w.number ≡ false → list_any (λ u. u.number == w.number) (writes_on side w.ssrc entries) ≡ true
    → write_fault setup entries side w ≡ Some NumberUsed
rule_used setup entries side w stream type number used = rw (stream, type, number, used) refl

pub rule_long : (setup : Setup) (entries : List Entry) (side : Side) (w : Writing) → has (streams_of side setup) w.ssrc ≡ true → has (types_of setup) w.pt ≡ true
    → leb (2 ^ 48) w.number ≡ false → list_any (λ u. u.number == w.number) (writes_on side w.ssrc entries) ≡ false → ltb 1400 (length w.payload) ≡ true
    → write_fault setup entries side w ≡ Some PayloadTooLong
rule_long setup entries side w stream type number used long = rw (stream, type, number, used, long) refl

pub rule_none : (setup : Setup) (entries : List Entry) (side : Side) (w : Writing) → has (streams_of side setup) w.ssrc ≡ true → has (types_of setup) w.pt ≡ true
    → leb (2 ^ 48) w.number ≡ false → list_any (λ u. u.number == w.number) (writes_on side w.ssrc entries) ≡ false → ltb 1400 (length w.payload) ≡ false
    → ltb 15 (length w.csrc) ≡ false
    → write_fault setup entries side w ≡ None
rule_none setup entries side w stream type number used long many = rw (stream, type, number, used, long, many) refl

pub rule_sources : (setup : Setup) (entries : List Entry) (side : Side) (w : Writing) → has (streams_of side setup) w.ssrc ≡ true → has (types_of setup) w.pt ≡ true
    → leb (2 ^ 48) w.number ≡ false → list_any (λ u. u.number == w.number) (writes_on side w.ssrc entries) ≡ false → ltb 1400 (length w.payload) ≡ false
    → ltb 15 (length w.csrc) ≡ true
    → write_fault setup entries side w ≡ Some TooManySources
rule_sources setup entries side w stream type number used long many = rw (stream, type, number, used, long, many) refl

-- the streams of an end

main_lines : (setup : Setup) (side : Side) (ss : List Stream) → map (λ (L : Outgoing). L.ssrc) (filter_map (outgoing_in setup side) ss) ≡ filter_map (main_in side) ss
main_lines setup side [] = refl
main_lines setup side (s ∷ ss) =
    elim (tested (same_side s.side side)) [
      | inl t ↦ rw t (ap (λ (ns : List ℕ). s.ssrc ∷ ns) (main_lines setup side ss))
      | inr t ↦ rw t (main_lines setup side ss)
    ]

media_lines : (setup : Setup) (side : Side) (ms : List Media)
    → map (λ (L : Outgoing). L.ssrc) (flat_map (λ (m : Media). filter_map (outgoing_in setup side) m.streams) ms) ≡ flat_map (λ (m : Media). filter_map (main_in side) m.streams) ms
media_lines setup side [] = refl
media_lines setup side (m ∷ ms) =
    map-append (λ (L : Outgoing). L.ssrc) (filter_map (outgoing_in setup side) m.streams) (flat_map (λ (n : Media). filter_map (outgoing_in setup side) n.streams) ms)
    ∙ (λ i. main_lines setup side m.streams i ++ media_lines setup side ms i)

pub line_ssrcs : (setup : Setup) (side : Side) → map (λ (L : Outgoing). L.ssrc) (outgoing_of side setup) ≡ streams_of side setup
line_ssrcs setup side = media_lines setup side setup.media

keys_zip : (rows : List (ℕ × TypeRow)) (medias : List MediaRecord) (now : ℕ) (stamp : Option ℕ) (repairs : List (ℕ × RepairsRecord)) (es : List (ℕ × StreamTx)) (ss : List (Outgoing × TxRecord))
    → AllZip (TxMirrors rows medias now stamp repairs) es ss → keys_of es ≡ map (λ (L : Outgoing). L.ssrc) (lines ss)
keys_zip rows medias now stamp repairs [] [] h = refl
keys_zip rows medias now stamp repairs [] (s ∷ ss) h = absurd h
keys_zip rows medias now stamp repairs (e ∷ es) [] h = absurd h
keys_zip rows medias now stamp repairs (e ∷ es) (s ∷ ss) h = λ i. h.0.key i ∷ keys_zip rows medias now stamp repairs es ss h.1 i

strange_in : (L : Outgoing) (Ms : List Outgoing) → AllStrange L Ms → IsIn L.ssrc (map (λ (M : Outgoing). M.ssrc) Ms) → ⊥
strange_in L [] h i = i
strange_in L (M ∷ Ms) h (inl e) =
    let own : has_ssrc L L.ssrc ≡ true = rw (eq-eqb L.ssrc L.ssrc refl) refl in
    let there : has_ssrc M L.ssrc ≡ true = rw (eq-eqb L.ssrc M.ssrc e) refl in
    false≢true (sym (h.0 L.ssrc own) ∙ there)
strange_in L (M ∷ Ms) h (inr i) = strange_in L Ms h.1 i

apart_distinct : (Ls : List Outgoing) → AreApart Ls → NoRepeat (map (λ (L : Outgoing). L.ssrc) Ls)
apart_distinct [] h = tt
apart_distinct (L ∷ Ls) h = (strange_in L Ls h.1.0, apart_distinct Ls h.1.1)

-- what an end that is ready tells of a write

module _ {cipher : CipherMeaning} {setup : Setup} {side : Side} {end : EndState} {a : Session} {entries : List Entry} (ready : Ready cipher setup side end a entries) where
  pub distinct : NoRepeat (streams_of side setup)
  distinct = subst (λ (ns : List ℕ). NoRepeat ns) (line_ssrcs setup side) (apart_distinct (outgoing_of side setup) (ready.fit.apart side))

  tx_keys : keys_of end.session.state.tx ≡ streams_of side setup
  tx_keys =
      ap (λ (s : SessionState). keys_of s.tx) ready.stands.state
      ∙ keys_zip ready.session.state.types ready.session.state.medias a.rx.now None ready.session.repairs ready.session.state.tx a.tx ready.mirrors.tx
      ∙ ap (λ (Ls : List Outgoing). map (λ (L : Outgoing). L.ssrc) Ls) ready.mirrors.outgoing
      ∙ line_ssrcs setup side

  pub unknown_stream : (ssrc : ℕ) → place_of ssrc end.session.state.tx ≡ None → has (streams_of side setup) ssrc ≡ false
  unknown_stream ssrc none = subst (λ ns. has ns ssrc ≡ false) tx_keys (key_absent ssrc (keys_of end.session.state.tx) none)

  pub stream_at : (ssrc at : ℕ) → place_of ssrc end.session.state.tx ≡ Some at → slice_get (streams_of side setup) at ≡ Some ssrc
  stream_at ssrc at place = subst (λ ns. slice_get ns at ≡ Some ssrc) tx_keys (key_at ssrc (keys_of end.session.state.tx) at place)

  pub known_stream : (ssrc at : ℕ) → place_of ssrc end.session.state.tx ≡ Some at → has (streams_of side setup) ssrc ≡ true
  known_stream ssrc at place = has_from_get ssrc (streams_of side setup) at (stream_at ssrc at place)

  pub known_type : (pt : ℕ) → is_some (place_of pt end.session.state.types) ≡ has (types_of setup) pt
  known_type pt = ap (λ (s : SessionState). is_some (place_of pt s.types)) ready.stands.state ∙ ready.types pt

  pub known_used : (ssrc at n : ℕ) → place_of ssrc end.session.state.tx ≡ Some at
      → has_written end.written at n ≡ list_any (λ u. u.number == n) (writes_on side ssrc entries)
  known_used ssrc at n place =
      let there = zip_at (UsedAs side entries) (streams_of side setup) end.written at ssrc (stream_at ssrc at place) ready.used in
      ap (λ o. has_number o n) there.1 ∙ there.2 n

-- a number more on the stream at a place

pub noted_at : (place n : ℕ) (old : List Numbers) (u new : Numbers) → place < length old → u ≡ get_or old place u
    → ((k : ℕ) → has new k ≡ (has u k || (n == k))) → IsNoted place n old (set old place new)
noted_at place n [] u new within is more = absurd (omega arith)
noted_at zero n (v ∷ old) u new within is more = (λ k. more k ∙ ap (λ (w : Numbers). has w k || (n == k)) is, refl)
noted_at (suc place) n (v ∷ old) u new within is more = (refl, noted_at place n old u new (omega arith) is more)

pub noted_past : (place n : ℕ) (old : List Numbers) → length old ≤ place → IsNoted place n old old
noted_past place n [] past = refl
noted_past zero n (v ∷ old) past = absurd (omega arith)
noted_past (suc place) n (v ∷ old) past = (refl, noted_past place n old (omega arith))

-- a write

any_push : {X : Type 0} (p : X → Bool) (xs : List X) (x : X) → list_any p (xs ++ x ∷ []) ≡ (list_any p xs || p x)
any_push p [] x = elim (tested (p x)) [ inl t ↦ rw t refl | inr t ↦ rw t refl ]
any_push p (y ∷ xs) x = elim (tested (p y)) [ inl t ↦ rw t refl | inr t ↦ rw t (any_push p xs x) ]

pub other_stream : (s : Side) (r q : ℕ) → (r ≡ q → ⊥) → (same_side s s && (q == r)) ≡ false
other_stream s r q other = false_from_ne_true _ (λ e. other (sym (eqb-true q r (and_parts (same_side s s) (q == r) e).1)))

same_stream : (s : Side) (r : ℕ) → (same_side s s && (r == r)) ≡ true
same_stream s r = rw (same_self s, eq-eqb r r refl) refl

module _ (side : Side) (entries : List Entry) (time : ℕ) (w : Writing) where
  abbrev after : List Entry
  after = entries ++ Wrote side time w ∷ []

  used_here : (r : ℕ) (old new : Numbers) → r ≡ w.ssrc → ((n : ℕ) → has new n ≡ (has old n || (w.number == n)))
      → UsedAs side entries r old → UsedAs side after r new
  used_here r old new is noted h n =
      noted n ∙ ap (λ b. b || (w.number == n)) (h n ∙ ap (λ q. list_any (λ (u : Writing). u.number == n) (writes_on side q entries)) is)
      ∙ sym (any_push (λ (u : Writing). u.number == n) (writes_on side w.ssrc entries) w)
      ∙ ap (list_any (λ (u : Writing). u.number == n))
      (sym (writes_more side w.ssrc entries (Wrote side time w ∷ []) ∙ ap (λ b. writes_on side w.ssrc entries ++ (cond b (w ∷ []) [] ++ [])) (same_stream side w.ssrc)))
      ∙ ap (λ q. list_any (λ (u : Writing). u.number == n) (writes_on side q after)) (sym is)

  used_elsewhere : (r : ℕ) (u : Numbers) → (r ≡ w.ssrc → ⊥) → UsedAs side entries r u → UsedAs side after r u
  used_elsewhere r u other h n =
      h n ∙ ap (list_any (λ (v : Writing). v.number == n))
      (sym (writes_more side r entries (Wrote side time w ∷ []) ∙ ap (λ b. writes_on side r entries ++ (cond b (w ∷ []) [] ++ [])) (other_stream side r w.ssrc other) ∙ append-nil (writes_on side r entries)))

  pub used_after : (rs : List ℕ) (at : ℕ) (old new : List Numbers) → NoRepeat rs → slice_get rs at ≡ Some w.ssrc → IsNoted at w.number old new
      → AllZip (UsedAs side entries) rs old → AllZip (UsedAs side after) rs new
  used_after [] at old new unlike there noted h = absurd (none-some w.ssrc there)
  used_after (r ∷ rs) at [] new unlike there noted h = absurd h
  used_after (r ∷ rs) zero (u ∷ old) [] unlike there noted h = absurd noted
  used_after (r ∷ rs) zero (u ∷ old) (v ∷ new) unlike there noted h =
      let is : r ≡ w.ssrc = same_Some r w.ssrc there in (
        used_here r u v is noted.0 h.0,
        subst (AllZip (UsedAs side after) rs) (sym noted.1)
            (zip_weaker (UsedAs side entries) (UsedAs side after) rs old (λ q x i k. used_elsewhere q x (λ same. unlike.0 (subst (λ n. IsIn n rs) (same ∙ sym is) i)) k) h.1),
      )
  used_after (r ∷ rs) (suc at) (u ∷ old) [] unlike there noted h = absurd noted
  used_after (r ∷ rs) (suc at) (u ∷ old) (v ∷ new) unlike there noted h = (
    subst (UsedAs side after r) (sym noted.0) (used_elsewhere r u (λ same. unlike.0 (subst (λ n. IsIn n rs) (sym same) (in_from_get w.ssrc rs at there))) h.0),
    used_after rs at old new unlike.1 there noted.1 h.1,
  )
