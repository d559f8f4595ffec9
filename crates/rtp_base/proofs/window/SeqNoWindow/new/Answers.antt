use Rattle.rtp_base.proofs.WindowLaws.{new_stands}
use Rattle.rtp_base.proofs.window.SeqNoWindow.new.Goals as goal

pub returns : goal.returns
returns c = rw (← c.from-number.ensures) (new_stands c.from-number.result)
