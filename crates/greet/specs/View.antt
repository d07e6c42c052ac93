-- What the crate's values mean, apart from the memory that holds them.
use Rattle.std.specs.Prelude.{◌≡◌, Option, Some}
use Rattle.greet.specs.Message.{GreetingValue, ResponseValue, DumpValue}
use Rattle.greet.specs.Refusal.{Refusal, server_error, protocol, truncated, capabilities, plugin, old_auth, unexpected}
use Rattle.greet.specs.declared.fault.GreetFault.{GreetFault}
use Rattle.greet.specs.declared.fault.GreetFault.TheVariants as faults
use Rattle.greet.specs.declared.greeting.Greeting.{Greeting}
use Rattle.greet.specs.declared.response.Response.{Response}
use Rattle.greet.specs.declared.command.Dump.{Dump}

abbrev pub greeting_value : Greeting → GreetingValue
greeting_value g = record { version = g.version.items; thread = g.thread; scramble = g.scramble; capabilities = g.capabilities; charset = g.charset; status = g.status }

abbrev pub response_value : Response → ResponseValue
response_value r = record { user = r.user.items; auth = r.auth.items }

abbrev pub dump_value : Dump → DumpValue
dump_value d = record { flags = d.flags; server_id = d.server_id; set = d.set.now }

-- The fault is the refusal, or memory ran out.
abbrev pub Refuses : Option Refusal → GreetFault → Type 0
Refuses refusal (faults.ServerError code state message) = refusal ≡ Some (server_error code state message.items)
Refuses refusal (faults.Protocol byte) = refusal ≡ Some (protocol byte)
Refuses refusal faults.Truncated = refusal ≡ Some truncated
Refuses refusal (faults.Capabilities bits) = refusal ≡ Some (capabilities bits)
Refuses refusal faults.Plugin = refusal ≡ Some plugin
Refuses refusal faults.OldAuth = refusal ≡ Some old_auth
Refuses refusal (faults.Unexpected byte) = refusal ≡ Some (unexpected byte)
Refuses refusal faults.Memory = Unit {0}
