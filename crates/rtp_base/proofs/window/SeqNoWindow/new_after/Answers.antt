use Rattle.rtp_base.proofs.WindowLaws.{after_stands}
use Rattle.rtp_base.proofs.window.SeqNoWindow.new_after.Goals as goal

pub returns : goal.returns
returns c = rw (← c.from-number.ensures) (after_stands c.from-number.result)
