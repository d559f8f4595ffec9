use Rattle.std.proofs.Common.{◌≡◌, ◌↔◌, ℕ, Bool, List, Result, Ok, Err, IfOk, IsTrue, string_bytes, subst}
use Rattle.std.specs.declared.alloc.AllocError.{AllocError}
use Rattle.media_model.specs.declared.entry.Entry.{Entry}
use Rattle.media_model.specs.declared.setup.Setup.{Setup}
use Rattle.media_script.specs.Text.{text_of}
use Rattle.run_model.specs.Widening.{RunWidens}
use Rattle.uses.proofs.tell_a_run.told.Goals as goal

-- the text of entries of which it is known whether repairs widen
is_told : {X : Type 0} (view : X → List ℕ) (setup : Setup) (run read : List Entry) (widens : Bool) (r : Result X AllocError)
    → (IsTrue widens ↔ RunWidens setup read) → read ≡ run → IfOk r (λ text. view text ≡ text_of widens run)
    → IfOk r (λ text. (b : Bool) × (IsTrue b ↔ RunWidens setup run) × (view text ≡ text_of b run))
is_told view setup run read widens (Ok text) decides same is =
    (widens, subst (λ (es : List Entry). IsTrue widens ↔ RunWidens setup es) same decides, is)
is_told view setup run read widens (Err e) decides same is = tt

pub returns : goal.returns
returns c =
    is_told (λ text. string_bytes text) c.args.setup.now c.args.run.now c.entries.result.now c.in_ok-widens.widens c.write_transcript.result
    c.in_ok-widens.ensures c.entries.ensures c.write_transcript.ensures
