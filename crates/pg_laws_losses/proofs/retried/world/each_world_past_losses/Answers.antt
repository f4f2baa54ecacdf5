use Rattle.std.proofs.Common.{◌∷◌, ◌++◌, refl}
use Rattle.pg_laws.specs.PgStep.Machines.Losing.{Step}
use Rattle.pg_laws.specs.PgStep.Machines.Machine.{Take}
use Rattle.pg_laws.specs.PgStep.Config.{name_at}
use Rattle.pg_laws_losses.proofs.RealTime.{onward}
use Rattle.pg_laws_losses.proofs.retried.world.each_world_past_losses.Goals as goal

pub returns : goal.returns
returns c = λ config w events apart l. record {
  kept = c.one_history_past_losses.ensures config w events apart l;
  made = λ i here. c.tables_are_made_of_what_was_taken.ensures config w events i apart l here;
  along = λ i name here lives. c.losses_take_along.ensures config w events i name apart l here lives;
  agree = λ i j x name. c.nodes_that_heard_the_lost_agree.ensures config w events i j x name apart l;
  ready = record {
    silence = c.quiet_nodes_saw_the_losses.ensures config w events apart l;
    holders = λ i name holder quiet here lives is. c.live_locks_are_of_ready_commands.ensures config w events i name holder apart l quiet here lives is;
    free = λ quiet none. c.no_lock_where_none_is_ready.ensures config w events apart l quiet none;
    tried = λ i op ready here lives room. c.a_retry_of_a_ready_command_goes_on.ensures.happens config w events i op l ready here lives room;
    goes = λ v i op ready happens. c.a_retry_of_a_ready_command_goes_on.ensures.goes config w v events i op l ready happens;
    retried = λ v steps seen more each. c.retries_free_the_locks.ensures.ready config w v events steps apart l seen more each;
    freed = λ v steps seen more each quiet. c.retries_free_the_locks.ensures.locks config w v events steps apart l seen more each quiet;
    others = λ v i j op other happens apart. c.a_retry_leaves_the_others.ensures config w v events i j op other l happens apart;
    all = λ room seen free. c.all_ready_commands_can_be_retried.ensures config w events room apart l seen free;
    taken = λ x y packet rest room pair lives is. c.a_world_comes_to_rest_past_losses.ensures.goes_on config w events x y packet rest apart l room pair lives is;
    rests = λ room. c.a_world_comes_to_rest_past_losses.ensures.rests config w events apart l room;
  };
  retries = record {
    begins = λ i op quiet here lives opened room. c.a_retry_is_answered_past_losses.ensures.begins config w events i op apart l quiet here lives opened room;
    goes = λ v takes i op update quiet here lives waits free room only led. c.a_retry_is_answered_past_losses.ensures.goes config w v events takes i op update apart l quiet here lives waits free room only led;
    answered = λ v takes i op quiet none here lives opened room only led. c.retries_are_answered_where_none_is_ready.ensures.goes config w v events takes i op apart l quiet none here lives opened room only led;
    unready = λ v takes i op quiet none led. c.retries_are_answered_where_none_is_ready.ensures.unready config w v events takes i op apart l quiet none led;
    unlocked = λ v takes i op quiet none here lives opened room only led all. c.retries_are_answered_where_none_is_ready.ensures.locks config w v events takes i op apart l quiet none here lives opened room only led all;
    frees = λ room. c.every_lock_can_be_freed_past_losses.ensures config w events apart l room;
    answers = λ room. c.every_command_can_be_answered_past_losses.ensures config w events apart l room;
  };
  answers = λ first last m i port is reached. c.answers_stay_past_losses.ensures config m w last i port (onward config events first last w m l is reached);
  formation = record {
    stays = λ first last m i is reached full. c.formed_nodes_stay_formed_past_losses.ensures config m w last i (onward config events first last w m l is reached) full;
    quiet = λ i quiet here lives. c.a_quiet_node_is_formed_past_losses.ensures config w events i apart l quiet here lives;
    ended = λ first last m i pid is reached ended. c.ends_stay_taken_past_losses.ensures config m w last i pid (onward config events first last w m l is reached) ended;
  };
  losses = record {
    still = λ first last m i is reached gone. c.lost_nodes_do_nothing.ensures config m w last i gone (onward config events first last w m l is reached);
    seen = λ first last m i p is reached seen. c.seen_losses_stay_seen.ensures config m w last i (name_at config p) (onward config events first last w m l is reached) seen;
    unheard = λ first before after m i p is reached seen.
        let last = before ++ Step (Take i p) ∷ after in
        c.lost_nodes_are_not_heard.ensures config m w last before after i p seen (onward config events first last w m l is reached) refl;
  };
  fresh = λ i. c.processes_are_fresh_past_losses.ensures config w events i l;
  references = record {
    fitting = λ i. c.references_have_one_use_past_losses.ensures.fitting config w events i l;
    later = λ first last m i number is reached. c.references_have_one_use_past_losses.ensures.later config m w first last i number reached (onward config events first last w m l is reached);
  };
  reads = λ first last m v i port command is reached happens. c.queries_read_the_table_past_losses.ensures.reads config m v i port command happens;
  looks = λ first last m v i port command is reached happens. c.queries_read_the_table_past_losses.ensures.looks config m v i port command happens;
  refuses = λ first last m v i port command is reached happens. c.commands_are_refused_exactly_past_losses.ensures config m v i port command happens;
  updates = λ first last m v d is reached happens. c.updates_are_applied_once_past_losses.ensures config m v d happens;
  finished = λ i pid own ended. c.ended_processes_were_finished_past_losses.ensures config w events i pid apart l own ended;
}
