-- What a push wants of each object for its requests to have frames (own).
use Rattle.type_lookup.specs.declared.messages.messages.Fetched.{Fetched}
use Rattle.type_lookup.specs.messages.Spelling.{HasObjectLength}

abbrev pub IsShort : Fetched → Type 0
IsShort object = HasObjectLength object.octets
