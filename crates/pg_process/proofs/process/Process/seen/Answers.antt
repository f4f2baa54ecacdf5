use Rattle.std.proofs.Common.{◌∙◌, sym, ap}
use Rattle.std.specs.Prelude.{option_copied}
use Rattle.pg_process.specs.Locks.{change_seen, group_seen}
use Rattle.pg_process.specs.Situations.{setting_of, situation_of}
use Rattle.pg_process.proofs.process.Process.seen.Goals as goal

pub returns-in-Some-group_of : goal.returns-in-Some-group_of
returns-in-Some-group_of c =
    let set = setting_of c.args.self.now in
    let a = situation_of c.args.self.now in
    c.lock.ensures
    ∙ (ap (group_seen set a) (sym (ap option_copied c.in-Some-group_of.is) ∙ c.group_of.ensures)
    ∙ ap (change_seen set a) (sym (ap option_copied c.in-Some.is) ∙ c.change.ensures))

pub returns-in-None-group_of : goal.returns-in-None-group_of
returns-in-None-group_of c =
    let set = setting_of c.args.self.now in
    let a = situation_of c.args.self.now in
    ap (group_seen set a) (sym (ap option_copied c.in-None-group_of.is) ∙ c.group_of.ensures)
    ∙ ap (change_seen set a) (sym (ap option_copied c.in-Some.is) ∙ c.change.ensures)

pub returns-in-None : goal.returns-in-None
returns-in-None c =
    ap (change_seen (setting_of c.args.self.now) (situation_of c.args.self.now)) (sym (ap option_copied c.in-None.is) ∙ c.change.ensures)
