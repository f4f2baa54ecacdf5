-- What a host that mirrors the table has of a process from its beginning.
use Rattle.std.proofs.Common.{◌≡◌, ◌∙◌, ℕ, Bool, true, false, cond, List, [], ◌∷◌, ◌++◌, sym, ap, subst, append-nil}
use Rattle.std.specs.List.{AllByRecursion}
use Rattle.pg_node.specs.PgStep.StepLaws.{is_query}
use Rattle.pg_node.specs.PgStep.declared.command.Command.{Command}
use Rattle.pg_node_process.specs.Bodies.{body_of}
use Rattle.pg_node_process.specs.Mirrors.{mirror, no_groups}
use Rattle.pg_node_process.specs.Outputs.{Output}
use Rattle.pg_node_process.specs.Whom.{Whom}
use Rattle.pg_node_process.specs.declared.body.Body.{Body}
use Rattle.pg_node_process.specs.declared.body.Body.TheVariants as bodies
use Rattle.pg_process.specs.Chains.{AllDo, IsWork, Step, said_in}
use Rattle.pg_process.specs.Deeds.{Aged, Answered, Asked, Blamed, Broke, Brought, Crowded, Declined, Deed, Denied, Does, Fed, Formed, Handed, Looked, Queued, Read, Sent, Shared, Timed, Took, Tried}
use Rattle.pg_process.specs.Hearing.{deeds_of, heeded}
use Rattle.pg_process.specs.Kept.{NoneBrought, NotBrought}
use Rattle.pg_process.specs.Serving.{AreHeard, HearsAll, whom_in}
use Rattle.pg_process.specs.Situations.{Setting, Situation, table_of}
use Rattle.pg_process.proofs.Keeping.{chains_keep_mirrors, mirror_then, told_so}

abbrev NoBrought : List Deed → Type 0
NoBrought deeds = AllByRecursion NotBrought deeds

-- ---- what deeds are not

work_not : (deed : Deed) → IsWork deed → NotBrought deed
work_not (Read body) is = tt
work_not Brought is = absurd is
work_not Blamed is = tt
work_not Timed is = tt
work_not (Shared port) is = tt
work_not (Asked port command) is = tt
work_not (Queued port command) is = tt
work_not (Fed peer bytes) is = tt
work_not (Took peer act) is = tt
work_not (Broke peer fault) is = tt
work_not (Handed port act) is = tt
work_not (Declined port refusal) is = tt
work_not (Looked port seen is_tick) is = tt
work_not (Tried port act) is = tt
work_not (Denied port) is = tt
work_not (Answered port answer) is = tt
work_not Formed is = tt
work_not Aged is = tt
work_not (Crowded count) is = tt
work_not (Sent peer bytes) is = tt

works_not : (deeds : List Deed) → AllByRecursion IsWork deeds → NoBrought deeds
works_not [] all = tt
works_not (deed ∷ deeds) all = (work_not deed all.0, works_not deeds all.1)

not_then : (xs ys : List Deed) → NoBrought xs → NoBrought ys → NoBrought (xs ++ ys)
not_then [] ys g h = h
not_then (x ∷ xs) ys g h = (g.0, not_then xs ys g.1 h)

asked_not : (query : Bool) (port : ℕ) (command : Command) → NotBrought (cond query (Asked port command) (Queued port command))
asked_not true port command = tt
asked_not false port command = tt

heeded_not : (body : Body) (bytes : List ℕ) → NoBrought (heeded body bytes)
heeded_not (bodies.Ask port command) bytes = (asked_not (is_query command) port command, tt)
heeded_not (bodies.Bytes peer) bytes = (tt, tt)
heeded_not (bodies.Denied port) bytes = (tt, tt)
heeded_not bodies.Clock bytes = (tt, tt)
heeded_not bodies.Tick bytes = tt
heeded_not bodies.Groups bytes = (tt, tt)
heeded_not bodies.Bad bytes = (tt, tt)

heard_not : (whom : Whom) (all : List (List ℕ)) (deeds : List Deed) → AreHeard whom all deeds → NoBrought deeds
heard_not whom [] deeds is = subst NoBrought (sym is) tt
heard_not whom (body ∷ all) deeds (work, later, follows, parts, heard) =
    subst NoBrought (sym parts) (tt, not_then (heeded (body_of whom body) body) (work ++ later) (heeded_not (body_of whom body) body) (not_then work later (works_not work follows) (heard_not whom all later heard)))

-- ---- the first two deeds

abbrev first_of : List Deed → Deed
first_of [] = Formed
first_of (deed ∷ deeds) = deed

abbrev behind : List Deed → List Deed
behind [] = []
behind (deed ∷ deeds) = deeds

steps_not : (steps : List Step) → NoBrought (deeds_of steps) → NoneBrought steps
steps_not [] none = tt
steps_not (step ∷ steps) none = (none.0, steps_not steps none.1)

module _ (set : Setting) (a b : Situation) (first : List ℕ) where
  -- the groups that the first body brought were told, and then what follows
  from_two : (one two : Step) (rest : List Step) → one.deed ≡ Read first → two.deed ≡ Brought → NoneBrought rest → AllDo set a (one ∷ two ∷ rest) b → a.told.mirrored ≡ true
      → mirror (said_in (one ∷ two ∷ rest)) no_groups ≡ table_of b
  from_two one two rest is_read is_brought none (m, reads, (n, brings, goes)) is =
      let read : Does set a (Read first) one.said m = subst (λ (d : Deed). Does set a d one.said m) is_read reads in
      let brought : Does set m Brought two.said n = subst (λ (d : Deed). Does set m d two.said n) is_brought brings in
      let mirrored : m.told.mirrored ≡ true = ap (λ (s : Situation). s.told.mirrored) read.1 ∙ is in
      let table : mirror two.said no_groups ≡ table_of n = told_so m.told.mirrored no_groups (table_of m) two.said mirrored brought.0 ∙ sym (ap table_of brought.1) in
      let kept = chains_keep_mirrors set n rest b goes (ap (λ (s : Situation). s.told.mirrored) brought.1 ∙ mirrored) none in
      ap (λ (os : List Output). mirror (os ++ (two.said ++ said_in rest)) no_groups) read.0
      ∙ (mirror_then two.said (said_in rest) no_groups ∙ (ap (mirror (said_in rest)) table ∙ kept.table))

  by_steps : (steps : List Step) (later : List Deed) → deeds_of steps ≡ Read first ∷ Brought ∷ later → NoBrought later → AllDo set a steps b → a.told.mirrored ≡ true
      → mirror (said_in steps) no_groups ≡ table_of b
  by_steps [] later parts none goes is = absurd (cc parts)
  by_steps (one ∷ []) later parts none goes is = absurd (cc (ap behind parts))
  by_steps (one ∷ two ∷ rest) later parts none goes is =
      from_two one two rest (ap first_of parts) (ap (λ (ds : List Deed). first_of (behind ds)) parts)
      (steps_not rest (subst NoBrought (sym (ap (λ (ds : List Deed). behind (behind ds)) parts)) none)) goes is

-- the whole of what was said makes the table of none
pub whole_mirror : (set : Setting) (a : Situation) (first : List ℕ) (all : List (List ℕ)) (steps : List Step) (b : Situation) → HearsAll set a first all steps [] b → a.told.mirrored ≡ true
    → mirror (said_in steps) no_groups ≡ table_of b
whole_mirror set a first all steps b hears is =
    by_steps set a b first steps (hears.heard.work ++ hears.heard.later) (sym (append-nil (deeds_of steps)) ∙ hears.heard.parts)
    (not_then hears.heard.work hears.heard.later (works_not hears.heard.work hears.heard.follows) (heard_not (whom_in set) all hears.heard.later hears.heard.heard)) hears.does is
