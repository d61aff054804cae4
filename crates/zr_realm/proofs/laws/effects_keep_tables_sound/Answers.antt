use Rattle.zr_realm.proofs.Outcome.{sorted_after, sound_after}
use Rattle.zr_realm.proofs.laws.effects_keep_tables_sound.Goals as goal

pub returns-clause-sound : goal.returns-clause-sound
returns-clause-sound c = λ state command change sound sorted is. sound_after state change command is sorted sound

pub returns-clause-sorted : goal.returns-clause-sorted
returns-clause-sorted c = λ state command change sound sorted is. sorted_after state change command is sorted sound
