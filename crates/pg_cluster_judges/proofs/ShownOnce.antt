-- A place of a frame world shows one node: its names, ports and state are told, and so is each answer.
use Rattle.std.proofs.Common.{◌≡◌, inl, inr, ℕ, Bool, List, [], ◌∷◌, Some, None, refl, sym, ap, ◌∙◌}
use Rattle.std.proofs.Math.Path.{fun_ext}
use Rattle.pg_term.specs.declared.pid.Pid.{Pid}
use Rattle.pg_term.specs.declared.term.Term.{Term}
use Rattle.pg_world.specs.PgGroup.Value.{Value, Counts}
use Rattle.pg_world.specs.PgGroup.Scope.{anywhere, at_node}
use Rattle.pg_world.specs.PgGroup.Members.{IsMemberList}
use Rattle.pg_world.specs.PgGroup.Table.{Table}
use Rattle.pg_world.proofs.PgGroup.Lists.{member_list_one}
use Rattle.pg_world.specs.PgQuery.Closest.{AreNearest, IsClosest, picked}
use Rattle.pg_world.proofs.PgQuery.Listing.{picked_some}
use Rattle.pg_world.specs.PgLaws.History.{answers_by}
use Rattle.pg_world.specs.PgStep.declared.answer.Answer.{Answer}
use Rattle.pg_world.specs.PgStep.declared.answer.Reply.{Reply}
use Rattle.pg_world.specs.PgStep.declared.answer.Reply.TheVariants as reply
use Rattle.pg_world.specs.PgStep.declared.command.Command.{Command}
use Rattle.pg_world.specs.PgStep.declared.command.Command.TheVariants.{Create, Delete, Join, Leave, Make, Finish}
use Rattle.pg_world.specs.PgStep.declared.command.Command.TheVariants.{Members, LocalMembers, WhichGroups, Closest}
use Rattle.pg_world.specs.PgStep.Commands.{ListsMembers, ListsGroups, PicksMember, Reads, Answers}
use Rattle.pg_world.specs.PgStep.Config.{Config, name_at}
use Rattle.pg_world.specs.PgStep.Nodes.{Node}
use Rattle.pg_world.specs.PgStep.State.{Response}
use Rattle.pg_world.specs.PgStep.State.Response.{Given, Read}
use Rattle.pg_world.specs.PgWorldConfig.Seen.{Seen}
use Rattle.pg_world.specs.PgWorldPackets.Worlds.{TimedFrameWorld, AreAnswers, ShowsNode}
use Rattle.pg_world.proofs.PgWorldPackets.OneList.{names_one}

-- ---- one reply

members_one : (v : Value) (among : Pid → Bool) (name : Term) (r s : Reply) → ListsMembers v among name r → ListsMembers v among name s → r ≡ s
members_one None among name r s a b = a ∙ sym b
members_one (Some counts) among name r s a b = a.2 ∙ (ap reply.Pids (member_list_one (Some counts) among a.0 b.0 a.1 b.1) ∙ sym b.2)

groups_one : (table : Table) (r s : Reply) → ListsGroups table r → ListsGroups table s → r ≡ s
groups_one table r s a b = a.3 ∙ (ap reply.Groups (names_one table a.0 b.0 a.1 a.2 b.1 b.2) ∙ sym b.3)

module _ (v : Value) (own : Node) (word : ℕ) where
  -- the nearest members, of which one is picked
  nearest_one : (pids others : List Pid) (pid other : Pid) → AreNearest v own pids → AreNearest v own others → picked pids word ≡ Some pid → picked others word ≡ Some other → pids ≡ others
  nearest_one pids others pid other (inl a) (inl b) p q = member_list_one v (at_node own) pids others a b
  nearest_one pids others pid other (inl a) (inr (none, b)) p q =
      absurd (let clash = ap (λ (l : List Pid). picked l word) (member_list_one v (at_node own) [] pids none a) ∙ p in cc)
  nearest_one pids others pid other (inr (none, a)) (inl b) p q =
      absurd (let clash = ap (λ (l : List Pid). picked l word) (member_list_one v (at_node own) [] others none b) ∙ q in cc)
  nearest_one pids others pid other (inr (none, a)) (inr (nobody, b)) p q = member_list_one v anywhere pids others a b

  closest_one : (pid other : Pid) → IsClosest v own word pid → IsClosest v own word other → pid ≡ other
  closest_one pid other a b =
      let same : Some pid ≡ Some other = sym a.place ∙ (ap (λ (l : List Pid). picked l word) (nearest_one a.among b.among pid other a.nearest b.nearest a.place b.place) ∙ b.place) in
      cc

  -- nobody is the closest of no members
  none_closest : (pid : Pid) → IsMemberList v anywhere [] → IsClosest v own word pid → ⊥
  none_closest pid empty is = go is.nearest
    where
      go : AreNearest v own is.among → ⊥
      go (inl near) = picked_some v (at_node own) (member_list_one v (at_node own)) is.among word pid empty near (sym is.place)
      go (inr (none, all)) = picked_some v anywhere (member_list_one v anywhere) is.among word pid empty all (sym is.place)

absent_picks : (own : Node) (word : ℕ) (name : Term) (r : Reply) → PicksMember None own word name r → r ≡ reply.NoSuchGroup name
absent_picks own word name (reply.NoSuchGroup other) is = ap reply.NoSuchGroup is
absent_picks own word name r is = absurd is

module _ (counts : Counts) (own : Node) (word : ℕ) (name : Term) where
  none_picks : (r : Reply) → IsMemberList (Some counts) anywhere [] → PicksMember (Some counts) own word name r → r ≡ reply.NoProcess name
  none_picks (reply.NoProcess other) empty is = ap reply.NoProcess is.1
  none_picks (reply.Closest pid) empty is = absurd (none_closest (Some counts) own word pid empty is)
  none_picks r empty is = absurd is

  some_picks : (r : Reply) (pid : Pid) → IsClosest (Some counts) own word pid → PicksMember (Some counts) own word name r → r ≡ reply.Closest pid
  some_picks (reply.NoProcess other) pid closest is = absurd (none_closest (Some counts) own word pid is.0 closest)
  some_picks (reply.Closest other) pid closest is = ap reply.Closest (closest_one (Some counts) own word other pid is closest)
  some_picks r pid closest is = absurd is

  present_picks : (r s : Reply) → PicksMember (Some counts) own word name r → PicksMember (Some counts) own word name s → r ≡ s
  present_picks (reply.NoProcess other) s a b = ap reply.NoProcess a.1 ∙ sym (none_picks s a.0 b)
  present_picks (reply.Closest pid) s a b = sym (some_picks s pid a b)
  present_picks r s a b = absurd a

picks_one : (v : Value) (own : Node) (word : ℕ) (name : Term) (r s : Reply) → PicksMember v own word name r → PicksMember v own word name s → r ≡ s
picks_one None own word name r s a b = absent_picks own word name r a ∙ sym (absent_picks own word name s b)
picks_one (Some counts) own word name r s a b = present_picks counts own word name r s a b

reads_one : (own : Node) (query : Command) (table : Table) (r s : Reply) → Reads own query table r → Reads own query table s → r ≡ s
reads_one own (Members name) table r s a b = members_one (table name) anywhere name r s a b
reads_one own (LocalMembers name) table r s a b = members_one (table name) (at_node own) name r s a b
reads_one own WhichGroups table r s a b = groups_one table r s a b
reads_one own (Closest name word) table r s a b = picks_one (table name) own word name r s a b
reads_one own (Create name) table r s a b = absurd a
reads_one own (Delete name) table r s a b = absurd a
reads_one own (Join name pid) table r s a b = absurd a
reads_one own (Leave name pid) table r s a b = absurd a
reads_one own Make table r s a b = absurd a
reads_one own (Finish pid) table r s a b = absurd a

reply_one : (own : Node) (response : Response) (r s : Reply) → Answers own response r → Answers own response s → r ≡ s
reply_one own (Given told) r s a b = a ∙ sym b
reply_one own (Read query table) r s a b = reads_one own query table r s a b

-- ---- one node

answers_one : (own : Node) (given : List (ℕ × Response)) (answers others : List Answer) → AreAnswers own given answers → AreAnswers own given others → answers ≡ others
answers_one own [] [] [] a b = refl
answers_one own [] [] (other ∷ others) a b = absurd b
answers_one own [] (answer ∷ answers) others a b = absurd a
answers_one own (gave ∷ more) [] others a b = absurd a
answers_one own (gave ∷ more) (answer ∷ answers) [] a b = absurd b
answers_one own (gave ∷ more) (answer ∷ answers) (other ∷ others) a b =
    let number : answer.number ≡ other.number = a.0 ∙ sym b.0 in
    let replied : answer.reply ≡ other.reply = reply_one own gave.1 answer.reply other.reply a.1 b.1 in
    let rest : answers ≡ others = answers_one own more answers others a.2 b.2 in
    λ j. record { number = number j; reply = replied j } ∷ rest j

pub shown_once : (config : Config) (w : TimedFrameWorld) (i : ℕ) (node other : Seen) → ShowsNode config w i node → ShowsNode config w i other → node ≡ other
shown_once config w i node other a b =
    let told : node.answers ≡ other.answers = fun_ext (λ port. answers_one (name_at config i) (answers_by i w.reported port) (node.answers port) (other.answers port) (a.answers port) (b.answers port)) in
    λ j. record { names = (a.names ∙ sym b.names) j; ports = (a.ports ∙ sym b.ports) j; state = (sym a.state ∙ b.state) j; answers = told j }
