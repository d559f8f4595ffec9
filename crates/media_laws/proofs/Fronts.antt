-- What holds of each front of a run.
use Rattle.std.proofs.Common.{◌≡◌, ◌⊎◌, inl, inr, List, [], ◌∷◌, ◌++◌, map, refl, sym, ap, ◌∙◌, subst, append_assoc}
use Rattle.std.proofs.lemmas.List.{append-nil, map-append}
use Rattle.std.proofs.lemmas.List.Concat.{flat_map-append}
use Rattle.rtp_base.specs.declared.kind.Kind.TheVariants.{Rtp}
use Rattle.media_model.specs.declared.entry.Packet.{Packet}
use Rattle.media_model.specs.declared.entry.Side.{Side}
use Rattle.media_model.specs.declared.entry.Side.TheVariants.{A, B}
use Rattle.media_model.specs.declared.entry.Entry.{Entry}
use Rattle.media_model.specs.declared.entry.Entry.TheVariants.{Wrote, Ticked, Called, Got, Sealed, Opened, Yielded}
use Rattle.media_model.specs.declared.setup.Setup.{Setup}
use Rattle.media_model.specs.declared.step.Step.{Step}
use Rattle.media_model.specs.Entries.{nonce_by, nonces, packet_by, packets}
use Rattle.media_model.specs.Genuine.{IsGenuine}
use Rattle.run_model.specs.Events.{Event, got, opened, yielded}
use Rattle.run_model.specs.Listing.{IsIn, NoRepeat}
use Rattle.run_model.specs.Receiving.{yields}
use Rattle.run_model.specs.Runs.{Happening, on_side, WidensAt, EachFrom as EachHappening}
use Rattle.run_model.specs.RxPlay.{lists_in}
use Rattle.run_model.specs.Transcripts.{happening_of, happenings, types_of}
use Rattle.run_model.specs.TxPlay.{is_sealing}
use Rattle.run_model.specs.Whole.{Config, IsSound, incoming_of, Session, Turns, writes, ticks, calls, requests, opens, hears, stays}
use Rattle.media_laws.proofs.Lists.{IsIn-left, IsIn-map}
use Rattle.media_laws.proofs.RxYields.{yields_new}
use Rattle.media_laws.proofs.Tables.{serve_seals}
use Rattle.media_laws.specs.Config.{config_of}
use Rattle.media_laws.specs.Headline.{IsRightIfSealed, IsSentWrite, IsOwedTo, YieldsWrites, RunWidens, HoldsOfRun, HoldsOfFront}
use Rattle.media_laws.specs.Listing.{EachFrom}
use Rattle.media_laws.specs.Opening.{Sealing}
use Rattle.media_laws.specs.Plain.{extensions_of}
use Rattle.media_laws.specs.Play.{Plays, begins, by_a, by_b}
use Rattle.media_laws.proofs.Playing.{EachFrom-append, EachFrom-left, happenings-more, Taken, plays_more}
use Rattle.media_laws.proofs.Yields.{all_in, yields_writes}

-- of two ways to cut a list, one cuts before the other
cut : (xs ys zs ws : List Entry) → xs ++ ys ≡ zs ++ ws → ((m : List Entry) × (xs ++ m ≡ zs)) ⊎ ((m : List Entry) × (xs ≡ zs ++ m) × (m ++ ys ≡ ws))
cut [] ys zs ws e = inl (zs, refl)
cut (x ∷ xs) ys [] ws e = inr (x ∷ xs, refl, e)
cut (x ∷ xs) ys (z ∷ zs) ws e =
    let head : x ≡ z = cc e in
    let tail : xs ++ ys ≡ zs ++ ws = cc e in
    elim (cut xs ys zs ws tail) [
      | inl m ↦ let is = m.1 in inl (m.0, cc (head, is))
      | inr m ↦ let is = m.1 in inr (m.0, cc (head, is), m.2)
    ]

-- nothing is yielded before the last event of a step

not_nil : (xs : List Event) (e : Event) (ys : List Event) → [] ≡ xs ++ e ∷ ys → ⊥
not_nil [] e ys is = cc
not_nil (x ∷ xs) e ys is = cc

quiet_two : (a b : Event) (zs xs ys : List Event) (e y : Event) → (y ≡ a → ⊥) → (y ≡ b → ⊥) → (zs ≡ []) ⊎ ((z : Event) × (zs ≡ z ∷ [])) → a ∷ b ∷ zs ≡ xs ++ e ∷ ys → IsIn y xs → ⊥
quiet_two a b zs [] ys e y na nb few is i = i
quiet_two a b zs (x ∷ []) ys e y na nb few is (inl j) = na (j ∙ (let s : x ≡ a = cc is in s))
quiet_two a b zs (x ∷ []) ys e y na nb few is (inr i) = i
quiet_two a b zs (x ∷ w ∷ xs) ys e y na nb few is (inl j) = na (j ∙ (let s : x ≡ a = cc is in s))
quiet_two a b zs (x ∷ w ∷ xs) ys e y na nb few is (inr (inl j)) = nb (j ∙ (let s : w ≡ b = cc is in s))
quiet_two a b zs (x ∷ w ∷ []) ys e y na nb few is (inr (inr i)) = i
quiet_two a b zs (x ∷ w ∷ v ∷ xs) ys e y na nb few is (inr (inr i)) =
    let rest : zs ≡ v ∷ (xs ++ e ∷ ys) = cc is in
    elim few [
      | inl none ↦ let f : [] ≡ v ∷ (xs ++ e ∷ ys) = sym none ∙ rest in absurd cc
      | inr one ↦ let f : one.0 ∷ [] ≡ v ∷ (xs ++ e ∷ ys) = sym one.1 ∙ rest in not_nil xs e ys (cc f)
    ]

only_last : {C : Config} {side : Side} {a c : Session} {new : List Event} (xs : List Event) (e : Event) (ys : List Event) (packet : Packet) → Turns C side a c new → new ≡ xs ++ e ∷ ys → IsIn (yielded packet) xs → ⊥
only_last xs e ys packet (writes time w late unused) is i = elim (subst (IsIn (yielded packet)) (sym is) (IsIn-left (yielded packet) xs (e ∷ ys) i)) [ inl j ↦ cc j | inr j ↦ j ]
only_last xs e ys packet (ticks time new next late d f count) is i =
    elim (subst (IsIn (yielded packet)) (sym is) (IsIn-left (yielded packet) xs (e ∷ ys) i)) [ inl j ↦ cc j | inr j ↦ (let k = all_in is_sealing new (yielded packet) (serve_seals d.serves) j in cc k) ]
only_last xs e ys packet (calls time items late others) is i =
    elim (subst (IsIn (yielded packet)) (sym is) (IsIn-left (yielded packet) xs (e ∷ ys) i)) [ inl j ↦ cc j | inr j ↦ elim j [ inl k ↦ cc k | inr k ↦ k ] ]
only_last xs e ys packet (requests time late) is i = elim (subst (IsIn (yielded packet)) (sym is) (IsIn-left (yielded packet) xs (e ∷ ys) i)) [ inl j ↦ cc j | inr j ↦ j ]
only_last xs e ys packet (hears time bytes index items late report h) is i =
    elim (subst (IsIn (yielded packet)) (sym is) (IsIn-left (yielded packet) xs (e ∷ ys) i)) [ inl j ↦ cc j | inr j ↦ elim j [ inl k ↦ cc k | inr k ↦ k ] ]
only_last xs e ys packet (stays time kind bytes late out unread) is i = elim (subst (IsIn (yielded packet)) (sym is) (IsIn-left (yielded packet) xs (e ∷ ys) i)) [ inl j ↦ cc j | inr j ↦ j ]
only_last {C} xs e ys packet (opens time bytes ssrc n p s late at o) is i =
    quiet_two (got time Rtp bytes) (opened ssrc n p) (map yielded (yields C.types s.0 (lists_in s.1) ssrc n p)) xs ys e (yielded packet) (λ j. cc j) (λ j. cc j)
    (elim (yields_new C.types s.0 (lists_in s.1) ssrc n p o.fresh) [
      | inl none ↦ inl (ap (map yielded) none)
      | inr new ↦ inr (yielded new.0, ap (map yielded) new.1)
    ]) is i

-- a front is a run and entries that yield nothing

abbrev pub NoYields : List Entry → Type 0
NoYields es = (s : Side) (p : Packet) → IsIn (Yielded s p) es → ⊥

events_in : (setup : Setup) (es : List Entry) → List Event
events_in setup es = map (λ (h : Happening). h.1) (happenings setup es)

on_back : (side : Side) (events : List Event) → map (λ (h : Happening). h.1) (on_side side events) ≡ events
on_back side [] = refl
on_back side (e ∷ events) = ap (λ es. e ∷ es) (on_back side events)

proper_quiet : {seal : Sealing} {setup : Setup} {past : List Entry} {side : Side} {step : Step} {new : List Entry} → Taken seal setup past side step new
    → (m : List Entry) (x : Entry) (rest : List Entry) → m ++ x ∷ rest ≡ new → NoYields m
unfolding events_in
proper_quiet {setup = setup} {side = side} {new = new} t m x rest e s p i =
    let first = λ (h : Happening). h.1 in
    let is : t.outcome.events ≡ events_in setup m ++ (happening_of (extensions_of setup) x).1 ∷ events_in setup rest =
    sym (on_back side t.outcome.events) ∙ ap (map first) (sym t.outcome.read) ∙ ap (λ es. map first (happenings setup es)) (sym e) ∙ ap (map first) (happenings-more setup m (x ∷ rest))
    ∙ map-append first (happenings setup m) (happenings setup (x ∷ rest)) in
    only_last (events_in setup m) (happening_of (extensions_of setup) x).1 (events_in setup rest) p t.outcome.turn is
    (IsIn-map first (s, yielded p) (happenings setup m) (IsIn-map (happening_of (extensions_of setup)) (Yielded s p) m i))

pub record Front (seal : Sealing) (setup : Setup) (front : List Entry) : Type 0 where
  pub a : Session
  pub b : Session
  pub steps : List Step
  pub whole : List Entry
  pub more : List Entry
  pub plays : Plays seal setup a b steps whole
  pub is : front ≡ whole ++ more
  pub quiet : NoYields more

front_step : {seal : Sealing} {setup : Setup} {side : Side} {step : Step} {new : List Entry} (past front m rest : List Entry) → Taken seal setup past side step new → front ≡ past ++ m → m ++ rest ≡ new → Front seal setup front
front_step {side = side} {new = new} past front m [] t is e =
    let later = plays_more side t in
    record {
      a = later.0;
      b = later.1;
      steps = later.2;
      whole = past ++ new;
      more = [];
      plays = later.3;
      is = is ∙ ap (λ es. past ++ es) (sym (append-nil m) ∙ e) ∙ sym (append-nil (past ++ new));
      quiet = λ s p i. i;
    }
front_step past front m (x ∷ rest) t is e = record { a = t.a; b = t.b; steps = t.steps; whole = past; more = m; plays = t.plays; is = is; quiet = proper_quiet t m x rest e }

front_of : {seal : Sealing} {setup : Setup} {a b : Session} {steps : List Step} {entries : List Entry} → Plays seal setup a b steps entries → (front rest : List Entry) → front ++ rest ≡ entries → Front seal setup front
front_of begins front rest e = record { a = _; b = _; steps = []; whole = []; more = front; plays = begins; is = refl; quiet = λ s p i. subst (IsIn (Yielded s p)) e (IsIn-left (Yielded s p) front rest i) }
front_of (by_a {a = a} {b = b} {c = c} {steps = steps} {entries = entries} h step new o) front rest e =
    elim (cut front rest entries new e) [
      | inl m ↦ front_of h front m.0 m.1
      | inr m ↦ front_step {side = A} {step = step} entries front m.0 rest (record { a = a; b = b; c = c; steps = steps; plays = h; outcome = o }) m.1 m.2
    ]
front_of (by_b {a = a} {b = b} {c = c} {steps = steps} {entries = entries} h step new o) front rest e =
    elim (cut front rest entries new e) [
      | inl m ↦ front_of h front m.0 m.1
      | inr m ↦ front_step {side = B} {step = step} entries front m.0 rest (record { a = a; b = b; c = c; steps = steps; plays = h; outcome = o }) m.1 m.2
    ]

owes_nothing : (past entries : List Entry) → NoYields entries → EachFrom IsOwedTo past entries
owes_nothing past [] none = tt
owes_nothing past (Yielded s p ∷ entries) none = absurd (none s p (inl refl))
owes_nothing past (Wrote s t w ∷ entries) none = (tt, owes_nothing (past ++ Wrote s t w ∷ []) entries (λ s p i. none s p (inr i)))
owes_nothing past (Ticked s t ∷ entries) none = (tt, owes_nothing (past ++ Ticked s t ∷ []) entries (λ s p i. none s p (inr i)))
owes_nothing past (Called s t c ∷ entries) none = (tt, owes_nothing (past ++ Called s t c ∷ []) entries (λ s p i. none s p (inr i)))
owes_nothing past (Got g ∷ entries) none = (tt, owes_nothing (past ++ Got g ∷ []) entries (λ s p i. none s p (inr i)))
owes_nothing past (Sealed x ∷ entries) none = (tt, owes_nothing (past ++ Sealed x ∷ []) entries (λ s p i. none s p (inr i)))
owes_nothing past (Opened o ∷ entries) none = (tt, owes_nothing (past ++ Opened o ∷ []) entries (λ s p i. none s p (inr i)))

-- a front of a genuine run whose repairs widen is one
genuine_front : (entries more : List Entry) → IsGenuine (entries ++ more) → IsGenuine entries
genuine_front entries more genuine before after o e =
    genuine before (after ++ more) o (ap (λ (es : List Entry). es ++ more) e ∙ append_assoc before (Opened o ∷ after) more)

each_left : (P : List Happening → Happening → Type 0) (past xs ys : List Happening) → EachHappening P past (xs ++ ys) → EachHappening P past xs
each_left P past [] ys h = tt
each_left P past (x ∷ xs) ys h = (h.0, each_left P (past ++ x ∷ []) xs ys h.1)

widens_front : (setup : Setup) (entries more : List Entry) → RunWidens setup (entries ++ more) → RunWidens setup entries
widens_front setup entries more h side L i =
    let P = WidensAt (types_of setup) side (incoming_of L) in
    each_left P [] (happenings setup entries) (happenings setup more) (subst (EachHappening P []) (happenings-more setup entries more) (h side L i))

pub yields_front : {seal : Sealing} {setup : Setup} → IsSound (config_of seal setup) → (front : List Entry) → Front seal setup front → YieldsWrites setup front
yields_front {seal} {setup} sound front f genuine widens =
    let g : IsGenuine f.whole = genuine_front f.whole f.more (subst IsGenuine f.is genuine) in
    let w : RunWidens setup f.whole = widens_front setup f.whole f.more (subst (RunWidens setup) f.is widens) in
    subst (EachFrom IsOwedTo []) (sym f.is) (EachFrom-append IsOwedTo [] f.whole f.more (yields_writes sound f.plays g w) (owes_nothing f.whole f.more f.quiet))

NoRepeat-left : {X : Type 0} (xs ys : List X) → NoRepeat (xs ++ ys) → NoRepeat xs
NoRepeat-left [] ys h = tt
NoRepeat-left (x ∷ xs) ys h = (λ i. h.0 (IsIn-left x xs ys i), NoRepeat-left xs ys h.1)

pub holds_of_front : {seal : Sealing} {setup : Setup} {a b : Session} {steps : List Step} (front rest : List Entry) → IsSound (config_of seal setup) → Plays seal setup a b steps (front ++ rest)
    → HoldsOfRun seal setup (front ++ rest) → HoldsOfFront seal setup front
holds_of_front {seal} {setup} front rest sound h holds = record {
  seals = EachFrom-left (λ past entry. IsRightIfSealed seal setup entry) [] front rest holds.seals;
  nonces = λ s. NoRepeat-left (nonces s front) (nonces s rest) (subst NoRepeat (flat_map-append (nonce_by s) front rest) (holds.nonces s));
  sendings = EachFrom-left (IsSentWrite setup) [] front rest holds.sendings;
  yields = yields_front sound front (front_of h front rest refl);
  once = λ s. NoRepeat-left (packets s front) (packets s rest) (subst NoRepeat (flat_map-append (packet_by s) front rest) (holds.once s));
}
