use Rattle.std.proofs.Common.{◌∙◌, ℕ, ◌+◌, List, string_bytes, subst, arith}
use Rattle.std.specs.Io.KnownBytes.{Appends}
use Rattle.std.proofs.KnownBytes.{Appends-trans}
use Rattle.media_base.specs.Causes.{WritesFront}
use Rattle.media_script.specs.Text.{entries_text}
use Rattle.mediasim.proofs.Texts.{front_of_second, gathered_more, more_written, front_gathered, all_gathered}
use Rattle.mediasim.proofs.lines.write_text.Goals as goal

pub returns-in_err-write_gathered-clause-front : goal.returns-in_err-write_gathered-clause-front
returns-in_err-write_gathered-clause-front g c e =
    let es = c.args.entries.now in
    let i = c.loop-entry.entry-index in
    let h = c.loop-entry.invariant in
    let more = gathered_more es h.0 i (string_bytes c.loop-entry.gathered) h.2 c.entry-item.result (string_bytes c.put_line.new.text) (omega arith) c.entry-item.is c.in_ok-put_line.ensures in
    front_gathered es h.0 (i + 1) (string_bytes c.put_line.new.text) more _ _ _ c.args.last.now h.1 c.in_err-write_gathered.ensures.front

pub loop-entry-preserved : goal.loop-entry-preserved
loop-entry-preserved g c =
    let es = c.args.entries.now in
    let i = c.loop-entry.entry-index in
    let h = c.loop-entry.invariant in
    let more = gathered_more es h.0 i (string_bytes c.loop-entry.gathered) h.2 c.entry-item.result (string_bytes c.put_line.new.text) (omega arith) c.entry-item.is c.in_ok-put_line.ensures in
    let w = c.in_ok-write_gathered.ensures in
    let next = more_written es h.0 (i + 1) (string_bytes c.put_line.new.text) more _ _ _ w.all.0 (string_bytes c.write_gathered.new.gathered) h.1 w.all.1 w.all.2 w.all.3 in
    let earlier = h.3 in
    let later = w.cause.later in
    (next.0, next.1, next.2, omega (arith, earlier, later), w.told ∙ h.4)

pub returns-in_err-write_all-clause-front : goal.returns-in_err-write_all-clause-front
returns-in_err-write_all-clause-front g c e =
    let h = c.loop-entry.invariant in
    front_gathered c.args.entries.now h.0 c.loop-entry.entry-index (string_bytes c.loop-entry.gathered) h.2 _ _ _ c.args.last.now h.1
    (subst (λ (xs : List ℕ). WritesFront (g.K.Sink.written c.loop-entry.sink) (g.K.Sink.written c.write_all.new.sink) xs) c.as_bytes.ensures.value c.in_err-write_all.ensures.front)

pub returns-in_err-write_all-2-clause-front : goal.returns-in_err-write_all-2-clause-front
returns-in_err-write_all-2-clause-front g c e =
    let es = c.args.entries.now in
    let h = c.loop-entry.invariant in
    let piece = subst (λ (xs : List ℕ). Appends (g.K.Sink.written c.loop-entry.sink) (g.K.Sink.written c.write_all.new.sink) xs) c.as_bytes.ensures.value c.in_ok-write_all.ensures.all in
    front_of_second _ _ _ (entries_text es) c.args.last.now
    (all_gathered es h.0 c.loop-entry.entry-index (string_bytes c.loop-entry.gathered) h.2 _ _ _ (omega arith) h.1 piece) c.in_err-write_all-2.ensures.front

pub returns-clause-all : goal.returns-clause-all
returns-clause-all g c =
    let es = c.args.entries.now in
    let h = c.loop-entry.invariant in
    let piece = subst (λ (xs : List ℕ). Appends (g.K.Sink.written c.loop-entry.sink) (g.K.Sink.written c.write_all.new.sink) xs) c.as_bytes.ensures.value c.in_ok-write_all.ensures.all in
    Appends-trans _ _ _ (entries_text es) c.args.last.now
    (all_gathered es h.0 c.loop-entry.entry-index (string_bytes c.loop-entry.gathered) h.2 _ _ _ (omega arith) h.1 piece) c.in_ok-write_all-2.ensures.all
