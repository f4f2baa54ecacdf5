use Rattle.pg_laws_losses.proofs.world.one_history_past_losses.Goals as goal

pub returns : goal.returns
returns c = λ config w events apart l. record {
  survives = λ at_losses. c.tables_are_replayed_past_losses.ensures config w events apart l at_losses;
  applies = λ i name there left. c.histories_are_thinned.ensures config w events i name apart l there left;
  unheld = λ i there. c.no_lock_of_the_lost.ensures config w events i apart l there;
  stands = record {
    answered = λ i op some. c.changes_stand_once_past_losses.ensures.answered config w events i op l some;
    answered_once = λ i op. c.changes_stand_once_past_losses.ensures.answered_once config w events i op l;
    at_most_once = λ i op. c.changes_stand_once_past_losses.ensures.at_most_once config w events i op l;
    given = λ before after e is. c.changes_are_answered_past_losses.ensures.given config w events before after e l is;
    not_looked = λ i op has none. c.changes_stand_once_past_losses.ensures.not_looked config w events i op l has none;
    one_answer = λ i op. c.changes_stand_once_past_losses.ensures.one_answer config w events i op l;
    answered_ok = λ i op some. c.changes_are_answered_past_losses.ensures.answered_ok config w events i op l some;
    ok_behind_lock = λ i op command came is ok. c.changes_are_answered_past_losses.ensures.ok_behind_lock config w events i op command l came is ok;
  };
  unanswered = λ name before after e is none left. record {
    last = c.unanswered_changes_are_last.ensures.last config w events name before after e apart l is none left;
    granted = c.unanswered_changes_are_last.ensures.granted config w events name before after e apart l is none left;
  };
  left = record {
    agree = λ i j name at_losses none. c.live_nodes_agree.ensures config w events i j name apart l at_losses none;
    home = λ i pid there ended. c.ends_at_home_past_losses.ensures config w events i pid l there ended;
    made = λ i pid. c.ended_processes_were_made_past_losses.ensures config w events i pid apart l;
    ended = λ i name. c.ended_are_in_no_group_past_losses.ensures config w events i name l;
  };
  grown = λ first last m name is reached. c.histories_grow_past_losses.ensures.from_all config w m events first last name l is reached;
  order = λ first last m is reached. c.histories_go_by_real_time_past_losses.ensures config w m events first last l is reached;
  exclusive = c.locks_are_exclusive_past_losses.ensures config w events apart l;
  harmless = record {
    replies = c.no_reply_is_odd.ensures config w events apart l;
    packets = λ i p packet rest. c.no_packet_is_refused.ensures config w events i p packet rest apart l;
  };
  counted = λ i. c.commands_are_counted_past_losses.ensures config w events i l;
}
