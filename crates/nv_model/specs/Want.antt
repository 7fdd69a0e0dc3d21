-- What a dialogue wants next, or how it ended
use Rattle.nv_entry.specs.StatusCode.{refused_with}
use Rattle.nv_model.specs.Dialogue.{Dialogue, End, Ask}
use Rattle.nv_model.specs.Reading.{Reading, Faulty, TooLong, Spells}
use Rattle.nv_model.specs.Transcript.{part}
use Rattle.nv_model.specs.declared.want.Want.{Want}
use Rattle.nv_model.specs.declared.want.Want.TheVariants as want

-- the next part of what it asks for, at most 4,096 bytes; or its end
abbrev pub want_of : Dialogue Reading → Want
want_of (End (Spells pieces)) = want.Done
want_of (End (Faulty code)) = want.Fault (refused_with code)
want_of (End TooLong) = want.TooLong
want_of (Ask addr unit left next) = want.Read addr (part left)
