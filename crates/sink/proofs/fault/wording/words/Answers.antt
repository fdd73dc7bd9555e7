use Rattle.std.proofs.Common.{sym, ap}
use Rattle.sink.specs.Wording.{wording}
use Rattle.sink.proofs.fault.wording.words.Goals as goal

pub returns-in-OutOfRange : goal.returns-in-OutOfRange
returns-in-OutOfRange c = sym (ap wording c.in-OutOfRange.is)

pub returns-in-AllOut : goal.returns-in-AllOut
returns-in-AllOut c = sym (ap wording c.in-AllOut.is)

pub returns-in-NoSpace : goal.returns-in-NoSpace
returns-in-NoSpace c = sym (ap wording c.in-NoSpace.is)

pub returns-in-NotOwed : goal.returns-in-NotOwed
returns-in-NotOwed c = sym (ap wording c.in-NotOwed.is)

pub returns-in-TellOutOfRange : goal.returns-in-TellOutOfRange
returns-in-TellOutOfRange c = sym (ap wording c.in-TellOutOfRange.is)

pub returns-in-NoLayer : goal.returns-in-NoLayer
returns-in-NoLayer c = sym (ap wording c.in-NoLayer.is)

pub returns-in-NoSuchItem : goal.returns-in-NoSuchItem
returns-in-NoSuchItem c = sym (ap wording c.in-NoSuchItem.is)

pub returns-in-ValueOutOfRange : goal.returns-in-ValueOutOfRange
returns-in-ValueOutOfRange c = sym (ap wording c.in-ValueOutOfRange.is)
