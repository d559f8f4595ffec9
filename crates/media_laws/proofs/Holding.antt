-- All that holds of a run.
use Rattle.std.proofs.Common.{◌≡◌, List, None}
use Rattle.setup_rules.specs.SetupRules.{setup_fault}
use Rattle.media_model.specs.declared.entry.Entry.{Entry}
use Rattle.media_model.specs.declared.setup.Setup.{Setup}
use Rattle.media_model.specs.declared.step.Step.{Step}
use Rattle.run_model.specs.Whole.{Session, IsSound}
use Rattle.media_laws.specs.Config.{config_of}
use Rattle.media_laws.specs.Headline.{HoldsOfRun}
use Rattle.media_laws.specs.Opening.{Sealing}
use Rattle.media_laws.specs.Play.{Plays}
use Rattle.media_laws.proofs.WireLaws.{WireLaws}
use Rattle.media_laws.proofs.Exactly.{first_sendings_are_yielded}
use Rattle.media_laws.proofs.Playing.{steps_are_answered, seals_are_right}
use Rattle.media_laws.proofs.Sendings.{as_ended, no_nonce_twice, sends_writes}
use Rattle.media_laws.proofs.Soundness.{sound_config}
use Rattle.media_laws.proofs.Yields.{no_packet_twice, yields_writes}

pub holds_of_run : {seal : Sealing} {setup : Setup} {a b : Session} {steps : List Step} {entries : List Entry} → WireLaws seal setup → setup_fault setup ≡ None
    → Plays seal setup a b steps entries → HoldsOfRun seal setup entries
holds_of_run {seal} {setup} {entries = entries} wire fine h =
    let sound : IsSound (config_of seal setup) = sound_config wire fine in
    record {
      steps = steps_are_answered sound h;
      seals = seals_are_right h;
      nonces = no_nonce_twice sound entries (as_ended h);
      sendings = sends_writes sound h;
      yields = yields_writes sound h;
      once = no_packet_twice sound h;
      exactly = first_sendings_are_yielded wire fine sound h;
    }
