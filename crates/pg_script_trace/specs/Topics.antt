-- What a message is about.
use Rattle.pg_world.specs.PgMessageTypes.declared.message.Message.{Message}
use Rattle.pg_world.specs.PgMessageTypes.declared.message.Message.TheVariants.{Call, Reply, DelLock, Exchange, Down}
use Rattle.pg_world.specs.PgMessageTypes.declared.message.Request.TheVariants.{SetLock, Change}
use Rattle.pg_script_diagram.specs.declared.data.Topic.{Topic}
use Rattle.pg_script_diagram.specs.declared.data.Topic.TheVariants as topic

abbrev pub topic_of : Message → Topic
topic_of (Call ref (SetLock name)) = topic.Lock
topic_of (Call ref (Change update)) = topic.Update
topic_of (Reply ref said) = topic.Reply
topic_of (DelLock name ref) = topic.Free
topic_of (Exchange node groups) = topic.Exchange
topic_of (Down pid) = topic.End
