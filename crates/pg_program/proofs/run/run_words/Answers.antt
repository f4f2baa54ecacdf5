use Rattle.std.proofs.Common.{map, refl, string_bytes}
use Rattle.clap.specs.Words.{fault_of, kind_of, subcommand_of}
use Rattle.pg_program.specs.CommandLine.{command_line}
use Rattle.pg_program.proofs.Ends.{explore_no_bytes, explore_no_script, explore_no_script_word, explore_no_serve_word}
use Rattle.pg_program.proofs.Ends.{explore_no_threads, explore_word, asked_so, offered_so, seated_so, not_other, not_read, not_spoken}
use Rattle.pg_program.proofs.Ends.{node_no_bytes, node_no_explore_word, node_no_script, node_no_script_word}
use Rattle.pg_program.proofs.Ends.{node_no_serve_word, node_no_threads, node_word}
use Rattle.pg_program.proofs.Ends.{only_memory, same_names, script_not_read, spoken, script_no_bytes}
use Rattle.pg_program.proofs.Ends.{script_no_threads, serve_no_bytes, serve_no_script, serve_no_script_word}
use Rattle.pg_program.proofs.Ends.{serve_no_threads, serve_word, not_served, threads_no_bytes, threads_no_script}
use Rattle.pg_program.proofs.Numbers.{same_talk}
use Rattle.pg_program.proofs.run.run_words.Goals as goal

-- ---- `bytes`

pub returns-in-Ok-Bytes-clause-bytes : goal.returns-in-Ok-Bytes-clause-bytes
returns-in-Ok-Bytes-clause-bytes g c =
    let words = map string_bytes c.args.words.now in
    λ own peer none is.
    let e = same_names (subcommand_of command_line words) own peer c.in-Ok-Bytes.own.now c.in-Ok-Bytes.peer.now is (rw c.in-Ok-Bytes.field-0-is at c.in-Ok-Bytes.ensures.asked) in
    rw (e.0, e.1) c.run_bytes.ensures

pub returns-in-Ok-Bytes-clause-script : goal.returns-in-Ok-Bytes-clause-script
returns-in-Ok-Bytes-clause-script g c =
    λ none is.
    absurd (script_no_bytes (subcommand_of command_line (map string_bytes c.args.words.now)) c.in-Ok-Bytes.own.now c.in-Ok-Bytes.peer.now is (rw c.in-Ok-Bytes.field-0-is at c.in-Ok-Bytes.ensures.asked))

pub returns-in-Ok-Bytes-clause-threads : goal.returns-in-Ok-Bytes-clause-threads
returns-in-Ok-Bytes-clause-threads g c =
    λ talk none is.
    absurd (threads_no_bytes (subcommand_of command_line (map string_bytes c.args.words.now)) talk c.in-Ok-Bytes.own.now c.in-Ok-Bytes.peer.now is (rw c.in-Ok-Bytes.field-0-is at c.in-Ok-Bytes.ensures.asked))

pub returns-in-Ok-Bytes-clause-serve : goal.returns-in-Ok-Bytes-clause-serve
returns-in-Ok-Bytes-clause-serve g c =
    λ none is.
    absurd (serve_no_bytes (subcommand_of command_line (map string_bytes c.args.words.now)) c.in-Ok-Bytes.own.now c.in-Ok-Bytes.peer.now is (rw c.in-Ok-Bytes.field-0-is at c.in-Ok-Bytes.ensures.asked))

pub returns-in-Ok-Bytes-clause-explore : goal.returns-in-Ok-Bytes-clause-explore
returns-in-Ok-Bytes-clause-explore g c =
    λ none is.
    absurd (explore_no_bytes (subcommand_of command_line (map string_bytes c.args.words.now)) c.in-Ok-Bytes.own.now c.in-Ok-Bytes.peer.now is (rw c.in-Ok-Bytes.field-0-is at c.in-Ok-Bytes.ensures.asked))

pub returns-in-Ok-Bytes-clause-node : goal.returns-in-Ok-Bytes-clause-node
returns-in-Ok-Bytes-clause-node g c =
    λ none is.
    absurd (node_no_bytes (subcommand_of command_line (map string_bytes c.args.words.now)) c.in-Ok-Bytes.own.now c.in-Ok-Bytes.peer.now is (rw c.in-Ok-Bytes.field-0-is at c.in-Ok-Bytes.ensures.asked))

-- ---- `explore`

pub returns-in-Ok-Explore-clause-bytes : goal.returns-in-Ok-Explore-clause-bytes
returns-in-Ok-Explore-clause-bytes g c =
    λ own peer none is.
    absurd (not_other (subcommand_of command_line (map string_bytes c.args.words.now)) own peer is (rw c.in-Ok-Explore.field-0-is at c.in-Ok-Explore.ensures.asked).0)

pub returns-in-Ok-Explore-clause-script : goal.returns-in-Ok-Explore-clause-script
returns-in-Ok-Explore-clause-script g c =
    λ none is.
    let asked = rw c.in-Ok-Explore.field-0-is at c.in-Ok-Explore.ensures.asked in
    let words = subcommand_of command_line (map string_bytes c.args.words.now) in
    absurd (explore_no_script_word words (explore_word words c.in-Ok-Explore.quest asked.1) is)

pub returns-in-Ok-Explore-clause-threads : goal.returns-in-Ok-Explore-clause-threads
returns-in-Ok-Explore-clause-threads g c =
    λ talk none is.
    let asked = rw c.in-Ok-Explore.field-0-is at c.in-Ok-Explore.ensures.asked in
    let words = subcommand_of command_line (map string_bytes c.args.words.now) in
    absurd (explore_no_threads words talk (explore_word words c.in-Ok-Explore.quest asked.1) is)

pub returns-in-Ok-Explore-clause-serve : goal.returns-in-Ok-Explore-clause-serve
returns-in-Ok-Explore-clause-serve g c =
    λ none is.
    let asked = rw c.in-Ok-Explore.field-0-is at c.in-Ok-Explore.ensures.asked in
    let words = subcommand_of command_line (map string_bytes c.args.words.now) in
    absurd (explore_no_serve_word words (explore_word words c.in-Ok-Explore.quest asked.1) is)

pub returns-in-Ok-Explore-clause-explore : goal.returns-in-Ok-Explore-clause-explore
returns-in-Ok-Explore-clause-explore g c =
    λ none is.
    let asked = rw c.in-Ok-Explore.field-0-is at c.in-Ok-Explore.ensures.asked in
    asked_so _ _ _ _ c.run_exploration.result c.in-Ok-Explore.quest asked.1 c.run_exploration.ensures

pub returns-in-Ok-Explore-clause-node : goal.returns-in-Ok-Explore-clause-node
returns-in-Ok-Explore-clause-node g c =
    λ none is.
    let asked = rw c.in-Ok-Explore.field-0-is at c.in-Ok-Explore.ensures.asked in
    let words = subcommand_of command_line (map string_bytes c.args.words.now) in
    absurd (node_no_explore_word words is (explore_word words c.in-Ok-Explore.quest asked.1))

-- ---- `serve`

pub returns-in-Ok-Serve-clause-serve : goal.returns-in-Ok-Serve-clause-serve
returns-in-Ok-Serve-clause-serve g c =
    λ none is.
    let asked = rw c.in-Ok-Serve.field-0-is at c.in-Ok-Serve.ensures.asked in
    offered_so _ _ _ _ c.run_service-status.result c.in-Ok-Serve.offer asked.1 c.run_service-status.ensures

pub returns-in-Ok-Serve-clause-explore : goal.returns-in-Ok-Serve-clause-explore
returns-in-Ok-Serve-clause-explore g c =
    λ none is.
    let asked = rw c.in-Ok-Serve.field-0-is at c.in-Ok-Serve.ensures.asked in
    let words = subcommand_of command_line (map string_bytes c.args.words.now) in
    absurd (explore_no_serve_word words is (serve_word words c.in-Ok-Serve.offer asked.1))

pub returns-in-Ok-Serve-clause-bytes : goal.returns-in-Ok-Serve-clause-bytes
returns-in-Ok-Serve-clause-bytes g c =
    λ own peer none is.
    absurd (not_other (subcommand_of command_line (map string_bytes c.args.words.now)) own peer is (rw c.in-Ok-Serve.field-0-is at c.in-Ok-Serve.ensures.asked).0)

pub returns-in-Ok-Serve-clause-script : goal.returns-in-Ok-Serve-clause-script
returns-in-Ok-Serve-clause-script g c =
    λ none is.
    let asked = rw c.in-Ok-Serve.field-0-is at c.in-Ok-Serve.ensures.asked in
    let words = subcommand_of command_line (map string_bytes c.args.words.now) in
    absurd (serve_no_script_word words (serve_word words c.in-Ok-Serve.offer asked.1) is)

pub returns-in-Ok-Serve-clause-threads : goal.returns-in-Ok-Serve-clause-threads
returns-in-Ok-Serve-clause-threads g c =
    λ talk none is.
    let asked = rw c.in-Ok-Serve.field-0-is at c.in-Ok-Serve.ensures.asked in
    let words = subcommand_of command_line (map string_bytes c.args.words.now) in
    absurd (serve_no_threads words talk (serve_word words c.in-Ok-Serve.offer asked.1) is)

pub returns-in-Ok-Serve-clause-node : goal.returns-in-Ok-Serve-clause-node
returns-in-Ok-Serve-clause-node g c =
    λ none is.
    let asked = rw c.in-Ok-Serve.field-0-is at c.in-Ok-Serve.ensures.asked in
    let words = subcommand_of command_line (map string_bytes c.args.words.now) in
    absurd (node_no_serve_word words is (serve_word words c.in-Ok-Serve.offer asked.1))

-- ---- `script`

pub returns-in-Ok-Script-clause-explore : goal.returns-in-Ok-Script-clause-explore
returns-in-Ok-Script-clause-explore g c =
    λ none is.
    let asked = rw c.in-Ok-Script.field-0-is at c.in-Ok-Script.ensures.asked in
    absurd (explore_no_script (subcommand_of command_line (map string_bytes c.args.words.now)) c.in-Ok-Script.aids is asked.1)

pub returns-in-Ok-Script-clause-serve : goal.returns-in-Ok-Script-clause-serve
returns-in-Ok-Script-clause-serve g c =
    λ none is.
    let asked = rw c.in-Ok-Script.field-0-is at c.in-Ok-Script.ensures.asked in
    absurd (serve_no_script (subcommand_of command_line (map string_bytes c.args.words.now)) c.in-Ok-Script.aids is asked.1)

pub returns-in-Ok-Script-clause-bytes : goal.returns-in-Ok-Script-clause-bytes
returns-in-Ok-Script-clause-bytes g c =
    λ own peer none is.
    absurd (not_other (subcommand_of command_line (map string_bytes c.args.words.now)) own peer is (rw c.in-Ok-Script.field-0-is at c.in-Ok-Script.ensures.asked).0)

pub returns-in-Ok-Script-clause-threads : goal.returns-in-Ok-Script-clause-threads
returns-in-Ok-Script-clause-threads g c =
    λ talk none is.
    let asked = rw c.in-Ok-Script.field-0-is at c.in-Ok-Script.ensures.asked in
    absurd (threads_no_script (subcommand_of command_line (map string_bytes c.args.words.now)) talk c.in-Ok-Script.aids is asked.1)

pub returns-in-Ok-Script-clause-node : goal.returns-in-Ok-Script-clause-node
returns-in-Ok-Script-clause-node g c =
    λ none is.
    let asked = rw c.in-Ok-Script.field-0-is at c.in-Ok-Script.ensures.asked in
    let words = subcommand_of command_line (map string_bytes c.args.words.now) in
    absurd (node_no_script words c.in-Ok-Script.aids is asked.1)

-- ---- `threads`

pub returns-in-Ok-Threads-clause-bytes : goal.returns-in-Ok-Threads-clause-bytes
returns-in-Ok-Threads-clause-bytes g c =
    λ own peer none is.
    absurd (not_other (subcommand_of command_line (map string_bytes c.args.words.now)) own peer is (rw c.in-Ok-Threads.field-0-is at c.in-Ok-Threads.ensures.asked).0)

pub returns-in-Ok-Threads-clause-script : goal.returns-in-Ok-Threads-clause-script
returns-in-Ok-Threads-clause-script g c =
    λ none is.
    let asked = rw c.in-Ok-Threads.field-0-is at c.in-Ok-Threads.ensures.asked in
    absurd (script_no_threads (subcommand_of command_line (map string_bytes c.args.words.now)) c.in-Ok-Threads.talk is asked.1)

pub returns-in-Ok-Threads-clause-threads : goal.returns-in-Ok-Threads-clause-threads
returns-in-Ok-Threads-clause-threads g c =
    λ talk none is.
    let asked = rw c.in-Ok-Threads.field-0-is at c.in-Ok-Threads.ensures.asked in
    let e = same_talk (subcommand_of command_line (map string_bytes c.args.words.now)) talk c.in-Ok-Threads.talk is asked.1 in
    rw e (spoken _ _ _ c.run_conversation.result c.run_conversation.ensures)

pub returns-in-Ok-Threads-clause-serve : goal.returns-in-Ok-Threads-clause-serve
returns-in-Ok-Threads-clause-serve g c =
    λ none is.
    let asked = rw c.in-Ok-Threads.field-0-is at c.in-Ok-Threads.ensures.asked in
    absurd (serve_no_threads (subcommand_of command_line (map string_bytes c.args.words.now)) c.in-Ok-Threads.talk is asked.1)

pub returns-in-Ok-Threads-clause-explore : goal.returns-in-Ok-Threads-clause-explore
returns-in-Ok-Threads-clause-explore g c =
    λ none is.
    let asked = rw c.in-Ok-Threads.field-0-is at c.in-Ok-Threads.ensures.asked in
    absurd (explore_no_threads (subcommand_of command_line (map string_bytes c.args.words.now)) c.in-Ok-Threads.talk is asked.1)

pub returns-in-Ok-Threads-clause-node : goal.returns-in-Ok-Threads-clause-node
returns-in-Ok-Threads-clause-node g c =
    λ none is.
    let asked = rw c.in-Ok-Threads.field-0-is at c.in-Ok-Threads.ensures.asked in
    let words = subcommand_of command_line (map string_bytes c.args.words.now) in
    absurd (node_no_threads words c.in-Ok-Threads.talk is asked.1)

-- ---- `node`

pub returns-in-Ok-Node-clause-node : goal.returns-in-Ok-Node-clause-node
returns-in-Ok-Node-clause-node g c =
    λ none is.
    let asked = rw c.in-Ok-Node.field-0-is at c.in-Ok-Node.ensures.asked in
    let words = subcommand_of command_line (map string_bytes c.args.words.now) in
    seated_so _ _ _ _ c.run_node-status.result c.in-Ok-Node.seat asked.1 c.run_node-status.ensures

pub returns-in-Ok-Node-clause-bytes : goal.returns-in-Ok-Node-clause-bytes
returns-in-Ok-Node-clause-bytes g c =
    λ own peer none is.
    let asked = rw c.in-Ok-Node.field-0-is at c.in-Ok-Node.ensures.asked in
    let words = subcommand_of command_line (map string_bytes c.args.words.now) in
    absurd (not_other words own peer is asked.0)

pub returns-in-Ok-Node-clause-script : goal.returns-in-Ok-Node-clause-script
returns-in-Ok-Node-clause-script g c =
    λ none is.
    let asked = rw c.in-Ok-Node.field-0-is at c.in-Ok-Node.ensures.asked in
    let words = subcommand_of command_line (map string_bytes c.args.words.now) in
    absurd (node_no_script_word words (node_word words c.in-Ok-Node.seat asked.1) is)

pub returns-in-Ok-Node-clause-threads : goal.returns-in-Ok-Node-clause-threads
returns-in-Ok-Node-clause-threads g c =
    λ talk none is.
    let asked = rw c.in-Ok-Node.field-0-is at c.in-Ok-Node.ensures.asked in
    let words = subcommand_of command_line (map string_bytes c.args.words.now) in
    absurd (node_no_threads words talk (node_word words c.in-Ok-Node.seat asked.1) is)

pub returns-in-Ok-Node-clause-serve : goal.returns-in-Ok-Node-clause-serve
returns-in-Ok-Node-clause-serve g c =
    λ none is.
    let asked = rw c.in-Ok-Node.field-0-is at c.in-Ok-Node.ensures.asked in
    let words = subcommand_of command_line (map string_bytes c.args.words.now) in
    absurd (node_no_serve_word words (node_word words c.in-Ok-Node.seat asked.1) is)

pub returns-in-Ok-Node-clause-explore : goal.returns-in-Ok-Node-clause-explore
returns-in-Ok-Node-clause-explore g c =
    λ none is.
    let asked = rw c.in-Ok-Node.field-0-is at c.in-Ok-Node.ensures.asked in
    let words = subcommand_of command_line (map string_bytes c.args.words.now) in
    absurd (node_no_explore_word words (node_word words c.in-Ok-Node.seat asked.1) is)

pub returns-in-Ok-Node-clause-others : goal.returns-in-Ok-Node-clause-others
returns-in-Ok-Node-clause-others g c =
    λ other.
    let asked = rw c.in-Ok-Node.field-0-is at c.in-Ok-Node.ensures.asked in
    let words = subcommand_of command_line (map string_bytes c.args.words.now) in
    absurd (other (node_word words c.in-Ok-Node.seat asked.1))

-- ---- no words

pub returns-in-Err-clause-explore : goal.returns-in-Err-clause-explore
returns-in-Err-clause-explore g c =
    λ none is.
    let ended = c.refuse_words.ensures.memory (only_memory (fault_of command_line (map string_bytes c.args.words.now)) (kind_of c.in-Err.error) none c.in-Err.ensures.refused) in
    not_spoken _ _ _ c.refuse_words.result refl ended.0 ended.1

pub returns-in-Err-clause-serve : goal.returns-in-Err-clause-serve
returns-in-Err-clause-serve g c =
    λ none is.
    let ended = c.refuse_words.ensures.memory (only_memory (fault_of command_line (map string_bytes c.args.words.now)) (kind_of c.in-Err.error) none c.in-Err.ensures.refused) in
    not_served _ _ _ c.refuse_words.result refl ended.0 ended.1

pub returns-in-Err-clause-node : goal.returns-in-Err-clause-node
returns-in-Err-clause-node g c =
    λ none is.
    let ended = c.refuse_words.ensures.memory (only_memory (fault_of command_line (map string_bytes c.args.words.now)) (kind_of c.in-Err.error) none c.in-Err.ensures.refused) in
    not_spoken _ _ _ c.refuse_words.result (refl, refl, refl) ended.0 ended.1

pub returns-in-Err-clause-bytes : goal.returns-in-Err-clause-bytes
returns-in-Err-clause-bytes g c =
    let words = map string_bytes c.args.words.now in
    λ own peer none is.
    let ended = c.refuse_words.ensures.memory (only_memory (fault_of command_line words) (kind_of c.in-Err.error) none c.in-Err.ensures.refused) in
    not_read own peer _ _ _ (g.R.Source.remaining c.args.reader.now) (g.W.Sink.contents c.args.writer.now) c.refuse_words.result ended.0 ended.1

pub returns-in-Err-clause-script : goal.returns-in-Err-clause-script
returns-in-Err-clause-script g c =
    λ none is.
    let ended = c.refuse_words.ensures.memory (only_memory (fault_of command_line (map string_bytes c.args.words.now)) (kind_of c.in-Err.error) none c.in-Err.ensures.refused) in
    script_not_read _ _ _ _ _ _ c.refuse_words.result refl ended.0 ended.1

pub returns-in-Err-clause-threads : goal.returns-in-Err-clause-threads
returns-in-Err-clause-threads g c =
    λ talk none is.
    let ended = c.refuse_words.ensures.memory (only_memory (fault_of command_line (map string_bytes c.args.words.now)) (kind_of c.in-Err.error) none c.in-Err.ensures.refused) in
    not_spoken _ _ _ c.refuse_words.result refl ended.0 ended.1
