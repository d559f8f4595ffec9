use Rattle.std.proofs.Common.{◌≡◌, length, unwrap_or, sym, ap, ◌∙◌, arith, rules}
use Rattle.stream_core.specs.Tables.{place_of, renamed}
use Rattle.stream_core.proofs.Renaming.{has_none, as_many, renamed_there, length_rekeyed}
use Rattle.stream_core.proofs.ssrc_table.SsrcTable.rename.Goals as goal

pub move_index-requires : goal.move_index-requires
move_index-requires g c =
    let same = c.in_ok-reserve.ensures.entries ∙ c.self.view_is in
    let none = ap (place_of c.args.ssrc) same ∙ c.requires.new in
    let many = ap length same in
    let writes = c.in_ok-self-inside.ensures.update.1 c.in-Some.stream in
    let counted = as_many c.shift_remove_index.new.self c.reserve.new.self.entries c.args.place c.args.ssrc c.in-Some.stream _ c.in-Some.ensures.entries none writes (omega arith) in
    record { from_in_bounds = search (rules, counted); to_in_bounds = search (rules, counted) }

pub returns-in_ok-self-inside-clause-ok : goal.returns-in_ok-self-inside-clause-ok
returns-in_ok-self-inside-clause-ok g c =
    let same = c.in_ok-reserve.ensures.entries ∙ c.self.view_is in
    let none = ap (place_of c.args.ssrc) same ∙ c.requires.new in
    let absent = has_none c.shift_remove_index.new.self c.reserve.new.self.entries c.args.place c.args.ssrc c.in-Some.ensures.entries none in
    let put = c.or_insert.result.now in
    let is_put : put ≡ c.in-Some.stream = c.or_insert.ensures.value ∙ ap (λ o. unwrap_or o c.in-Some.stream) (c.in_ok-self-inside.ensures.value ∙ absent) in
    renamed_there c.shift_remove_index.new.self c.reserve.new.self.entries c.args.place c.args.ssrc put _ c.in-Some.ensures.entries none (c.in_ok-self-inside.ensures.update.1 put)
    (c.in-Some.field-0-0, c.in-Some.stream) c.move_index.new.self.entries c.len-last.result (sym is_put) (sym c.in-Some.ensures.entry) c.len-last.ensures.len (search rules)
    ∙ ap (λ es. renamed c.args.ssrc es c.args.place) same

pub returns-in_ok-self-inside-clause-len : goal.returns-in_ok-self-inside-clause-len
returns-in_ok-self-inside-clause-len g c = ap length (returns-in_ok-self-inside-clause-ok g c) ∙ length_rekeyed c.args.ssrc c.args.self.now c.args.place
