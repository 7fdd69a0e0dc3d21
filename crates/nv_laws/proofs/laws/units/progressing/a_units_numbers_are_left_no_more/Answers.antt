use Rattle.nv_laws.proofs.units.LeftThere.{behind-among, numbers-there}
use Rattle.nv_laws.proofs.units.Progress.{numbers-gone, progress-left}
use Rattle.nv_laws.proofs.laws.units.progressing.a_units_numbers_are_left_no_more.Goals as goal

pub returns-clause-share : goal.returns-clause-share
returns-clause-share c guest entry share unit left is = numbers-gone guest entry share is unit left

pub returns-clause-whole : goal.returns-clause-whole
returns-clause-whole c guest entry share unit left all front back before behind is apart =
    progress-left guest entry share is unit left all front back before behind apart

pub returns-clause-there : goal.returns-clause-there
returns-clause-there c = numbers-there

pub returns-clause-among : goal.returns-clause-among
returns-clause-among c = behind-among
