-- The law of src/laws.rt of hosts that mirror the table.
use Rattle.std.proofs.Common.{◌≡◌, ◌∙◌, ℕ, Bool, true, false, List, [], ◌∷◌, ◌++◌, nat_le, inl, inr, refl, sym, ap, subst, append-nil, length}
use Rattle.std.specs.List.{flat_map}
use Rattle.std.proofs.lemmas.List.Concat.{flat_map-append}
use Rattle.pg_term.specs.declared.term.Term.{Term}
use Rattle.pg_node.specs.PgGroup.Table.{Table}
use Rattle.pg_node_process.specs.Mirrors.{TellsTable, all_assigned, assignments, mirror}
use Rattle.pg_node_process.specs.Outputs.{Output}
use Rattle.pg_process.specs.declared.process.Told.{Told}
use Rattle.pg_process.specs.Chains.{said_in}
use Rattle.pg_process.specs.Deeds.{Aged, Answered, Asked, Blamed, Broke, Brought, Crowded, Declined, Deed, Denied, Does, Fed, Formed, Handed, IsReply, Looked, Queued, Read, SaysEnded, SaysFull, Sent, Shared, Tells, Timed, Took, Tried, formed_said, told_formed}
use Rattle.pg_process.specs.Kept.{ChainsKeepMirrors, NotBrought}
use Rattle.pg_process.specs.Locks.{is_formed}
use Rattle.pg_process.specs.Situations.{Setting, Situation, table_of}

-- ---- what assigns nothing

abbrev Assigns : List Output → Type 0
Assigns said = flat_map assignments said ≡ []

none_tells : (term : Term) (said : List Output) → Tells term said → Assigns said
none_tells term said (inl e) = ap (flat_map assignments) e
none_tells term said (inr e) = ap (flat_map assignments) e.1

none_replies : (set : Setting) (port number : ℕ) (reply : Term) (said : List Output) → IsReply set port number reply said → Assigns said
none_replies set port number reply said (inl e) = ap (flat_map assignments) e
none_replies set port number reply said (inr e) = ap (flat_map assignments) e.1

none_full : (full : Bool) (set : Setting) (port number : ℕ) (said : List Output) → SaysFull full set port number said → Assigns said
none_full true set port number said says = none_replies set port number _ said says
none_full false set port number said says = ap (flat_map assignments) says

none_ended : (ended : Bool) (term : Term) (said : List Output) → SaysEnded ended term said → Assigns said
none_ended true term said says = none_tells term said says
none_ended false term said says = ap (flat_map assignments) says

none_formed : (formed told : Bool) → Assigns (formed_said formed told)
none_formed true true = refl
none_formed true false = refl
none_formed false told = refl

none_both : (said one other : List Output) → said ≡ one ++ other → Assigns one → Assigns other → Assigns said
none_both said one other is g h = ap (flat_map assignments) is ∙ (flat_map-append assignments one other ∙ (ap (λ (ts : List Term). ts ++ flat_map assignments other) g ∙ h))

-- ---- one deed

record Keeps (a : Situation) (said : List Output) (b : Situation) : Type 0 where
  table : mirror said (table_of a) ≡ table_of b
  told : b.told.mirrored ≡ true

-- nothing is assigned, and the table is the same
same : (a b : Situation) (said : List Output) → Assigns said → table_of b ≡ table_of a → b.told.mirrored ≡ a.told.mirrored → a.told.mirrored ≡ true → Keeps a said b
same a b said none table told is = record { table = ap (λ (ts : List Term). all_assigned ts (table_of a)) none ∙ sym table; told = told ∙ is }

still : (a b c : Situation) (said : List Output) → Assigns said → b ≡ c → table_of c ≡ table_of a → c.told.mirrored ≡ a.told.mirrored → a.told.mirrored ≡ true → Keeps a said b
still a b c said none after table told is = same a b said none (ap table_of after ∙ table) (ap (λ (s : Situation). s.told.mirrored) after ∙ told) is

pub told_so : (mirrored : Bool) (before after : Table) (said : List Output) → mirrored ≡ true → TellsTable mirrored before after said → mirror said before ≡ after
told_so mirrored before after said is tells = (subst (λ (b : Bool). TellsTable b before after said) is tells).1

formed_mirrored : (formed : Bool) (told : Told) → (told_formed formed told).mirrored ≡ told.mirrored
formed_mirrored true told = refl
formed_mirrored false told = refl

behind_formed : (said table formed : List Output) (before : Table) → said ≡ table ++ formed → Assigns formed → mirror said before ≡ mirror table before
behind_formed said table formed before is none =
    ap (λ (ts : List Term). all_assigned ts before)
    (ap (flat_map assignments) is ∙ (flat_map-append assignments table formed ∙ (ap (λ (ts : List Term). flat_map assignments table ++ ts) none ∙ append-nil (flat_map assignments table))))

keeps_by : (set : Setting) (a : Situation) (deed : Deed) (said : List Output) (b : Situation) → Does set a deed said b → a.told.mirrored ≡ true → NotBrought deed → Keeps a said b
keeps_by set a (Read body) said b does is never = still a b _ said (ap (flat_map assignments) does.0) does.1 refl refl is
keeps_by set a Brought said b does is never = absurd never
keeps_by set a Blamed said b does is never = still a b a said (none_tells _ said does.0) does.1 refl refl is
keeps_by set a Timed said b does is never = still a b a said (ap (flat_map assignments) does.0) does.1 refl refl is
keeps_by set a (Shared port) said b does is never = still a b _ said (ap (flat_map assignments) does.0) does.1 refl refl is
keeps_by set a (Asked port command) said b does is never = still a b _ said (none_replies set port _ _ said does.says) does.after refl refl is
keeps_by set a (Queued port command) said b does is never = still a b _ said (none_full (nat_le 1024 (length (a.ports port).waiting)) set port _ said does.says) does.after refl refl is
keeps_by set a (Fed peer bytes) said b does is never = still a b _ said (ap (flat_map assignments) does.0) does.1 refl refl is
keeps_by set a (Took peer act) said b does is never = record {
  table = behind_formed said does.0.table (formed_said (is_formed set b) a.told.formed) (table_of a) does.0.says (none_formed (is_formed set b) a.told.formed)
      ∙ told_so a.told.mirrored (table_of a) (table_of b) does.0.table is does.0.tells.table;
  told = ap (λ (t : Told). t.mirrored) does.0.told ∙ (formed_mirrored (is_formed set b) a.told ∙ is);
}
keeps_by set a (Broke peer fault) said b does is never = still a b _ said (none_tells _ said does.says) does.after refl refl is
keeps_by set a (Handed port act) said b does is never = record {
  table = told_so a.told.mirrored (table_of a) (table_of b) said is does.0.table;
  told = ap (λ (t : Told). t.mirrored) does.1.told ∙ is;
}
keeps_by set a (Declined port refusal) said b does is never = still a b _ said (none_replies set port _ _ said does.says) does.after refl refl is
keeps_by set a (Looked port seen is_tick) said b does is never = still a b _ said (ap (flat_map assignments) does.0) does.2 refl refl is
keeps_by set a (Tried port act) said b does is never = record {
  table = told_so a.told.mirrored (table_of a) (table_of b) said is does.0.table;
  told = ap (λ (t : Told). t.mirrored) does.1.told ∙ is;
}
keeps_by set a (Denied port) said b does is never = still a b _ said (ap (flat_map assignments) does.0) does.3 refl refl is
keeps_by set a (Answered port answer) said b does is never =
    still a b _ said (none_both said does.says.notice does.says.answer does.says.says (none_ended _ _ does.says.notice does.says.notices) (none_replies set port _ _ does.says.answer does.says.replies)) does.after refl refl is
keeps_by set a Formed said b does is never = still a b _ said (ap (flat_map assignments) does.0) does.3 refl refl is
keeps_by set a Aged said b does is never = still a b _ said (none_tells _ said does.0) does.3 refl refl is
keeps_by set a (Crowded count) said b does is never = still a b _ said (none_tells _ said does.0) does.4 refl refl is
keeps_by set a (Sent peer bytes) said b does is never = still a b _ said (ap (flat_map assignments) does.says) does.after refl refl is

-- ---- all of a chain

assigned_then : (xs ys : List Term) (table : Table) → all_assigned (xs ++ ys) table ≡ all_assigned ys (all_assigned xs table)
assigned_then [] ys table = refl
assigned_then (x ∷ xs) ys table = assigned_then xs ys _

pub mirror_then : (xs ys : List Output) (table : Table) → mirror (xs ++ ys) table ≡ mirror ys (mirror xs table)
mirror_then xs ys table = ap (λ (ts : List Term). all_assigned ts table) (flat_map-append assignments xs ys) ∙ assigned_then (flat_map assignments xs) (flat_map assignments ys) table

pub chains_keep_mirrors : ChainsKeepMirrors
chains_keep_mirrors set a [] b does is none = record { table = sym (ap table_of does); told = ap (λ (s : Situation). s.told.mirrored) does ∙ is }
chains_keep_mirrors set a (step ∷ steps) b does is none =
    let one = keeps_by set a step.deed step.said does.0 does.1 is none.0 in
    let rest = chains_keep_mirrors set does.0 steps b does.2 one.told none.1 in record {
      table = mirror_then step.said (said_in steps) (table_of a) ∙ (ap (mirror (said_in steps)) one.table ∙ rest.table);
      told = rest.told;
    }
