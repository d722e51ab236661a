-- `new`: the table has all readings.
use Rattle.heads.proofs.TableLaws.{readings, readings_all}
use Rattle.heads.proofs.readings.Readings.new.Goals as goal

pub invariant_of-result : goal.invariant_of-result
unfolding readings
invariant_of-result c = record { packed = readings_all }
