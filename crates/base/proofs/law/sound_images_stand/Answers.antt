use Rattle.base.proofs.Histories.{history_in, sound-stands}
use Rattle.base.proofs.law.sound_images_stand.Goals as goal

pub returns : goal.returns
returns c = λ image sound. (history_in image, sound-stands image sound)
