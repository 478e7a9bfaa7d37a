-- What assertions speak of.
use Rattle.std.specs.Prelude.{◌==◌, Bool, false, ◌&&◌}
use Rattle.assert_bind.specs.declared.body.BoundBody.{BoundBody}
use Rattle.assert_bind.specs.declared.body.BoundBody.TheVariants as body
use Rattle.assert_bind.specs.declared.subject.Subject.{Subject}
use Rattle.assert_bind.specs.declared.subject.Subject.TheVariants.{Entry, Reach, Word, Targets, Loop}

-- what an assertion speaks of: a root and a stub of an entry, a `never` of an instruction, an `at` of the word of
-- a register at an instruction, a `jump` and a `call` of the targets of an instruction, a `loop` of its head
abbrev pub subject_of : BoundBody → Subject
subject_of (body.Root entry) = Entry entry
subject_of (body.Never pc) = Reach pc
subject_of (body.At pc reg lo hi) = Word pc reg
subject_of (body.Jump pc to) = Targets pc
subject_of (body.CallTo pc to) = Targets pc
subject_of (body.Loop pc count) = Loop pc
subject_of (body.Stub entry time) = Entry entry

-- two subjects are the same
abbrev pub is_same : Subject → Subject → Bool
is_same (Entry a) (Entry b) = a == b
is_same (Reach a) (Reach b) = a == b
is_same (Word a r) (Word b s) = (a == b) && (r == s)
is_same (Targets a) (Targets b) = a == b
is_same (Loop a) (Loop b) = a == b
is_same _ _ = false
