use Rattle.std.proofs.Common.{List, take, ◌++◌, None, subst}
use Rattle.std.specs.Io.KnownBytes.{Appends}
use Rattle.media_model.specs.declared.entry.Entry.{Entry}
use Rattle.media_script.specs.Text.{entries_text}
use Rattle.mediasim.specs.declared.ends.End.TheVariants.{Memory}
use Rattle.mediasim.specs.Lines.{memory_line}
use Rattle.mediasim.proofs.Whole.{tells_memory}
use Rattle.mediasim.proofs.run_command.run_command.Goals as goal

pub returns-in-Err-Memory-clause-carries : goal.returns-in-Err-Memory-clause-carries
returns-in-Err-Memory-clause-carries g c =
    let l = c.in-Err-Memory.ensures.lines (let e = c.in-Err-Memory.field-0-is in cc) in
    let told = entries_text (take l.0 c.play_script-end.result.entries) in
    let written = subst (λ (es : List Entry). Appends (g.K.Sink.written c.args.sink.now) (g.K.Sink.written c.write_text.new.sink) (entries_text (take l.0 es)))
    c.entries-2.ensures l.1 in
    record {
      end = Memory;
      transcript = None;
      text = told ++ memory_line;
      makes = c.play_script-end.ensures.fronts l.0;
      tells = tells_memory _ _ _ told c.tell_line.result.end c.tell_line.result.transcript written c.tell_line.ensures.tells;
    }
