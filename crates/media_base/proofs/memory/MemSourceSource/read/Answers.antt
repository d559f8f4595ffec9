use Rattle.std.proofs.Common.{ℕ, ◌+◌, List, take, drop, ap, sym, ◌∙◌, arith, length-append, length-drop, length-take}
use Rattle.std.proofs.lemmas.List.{drop_all, take_rest}
use Rattle.media_base.specs.Memory.{MemorySource}
use Rattle.media_base.proofs.Fronts.{piece_read}
use Rattle.media_base.proofs.memory.MemSourceSource.read.Goals as goal

pub returns-clause-bytes : goal.returns-clause-bytes
returns-clause-bytes c =
    let bs = c.self.inside.bytes.items in
    let at = c.self.inside.at in
    let n = c.min-count.result in
    let is = c.copy_from_slice.ensures.after ∙ ap (λ (l : List ℕ). take n l) (take_rest c.deref-2.result.now at) ∙ ap (λ (l : List ℕ). take n (drop at l)) c.deref-2.ensures.value in (
      ap (λ (s : MemorySource). s.left) (sym c.self.view_is) ∙ piece_read bs c.args.buf.now c.copy_from_slice.new.self at n is (omega (arith, c.copy_from_slice.ensures.len, length-take {A = ℕ}, length-drop {A = ℕ})),
      λ none room. drop_all (at + n) bs (omega (arith, none, room, length-append {A = ℕ}, length-take {A = ℕ}, length-drop {A = ℕ}, c.copy_from_slice.ensures.len)),
    )
