-- What a rendezvous is among those of the definitions, and what the answer to an offer says.
use Rattle.std.specs.Prelude.{Option, Some, None}
use Rattle.jos_base.specs.Messages.{Rendezvous as Definition}
use Rattle.jos_ipc.specs.declared.rendezvous.Rendezvous.{Rendezvous}
use Rattle.jos_ipc.specs.declared.rendezvous.Offer.{Offer}
use Rattle.jos_ipc.specs.declared.rendezvous.Offer.TheVariants.{Taken, NotReceiving}

abbrev pub rendezvous_of : Rendezvous → Definition
rendezvous_of r = record {
  receiving = r.receiving;
  wanted = r.wanted.0;
  destination = r.destination;
  value = r.value;
  sender = r.sender.0;
  perm = r.perm;
}

-- the rendezvous after an answer: None where the word was not taken
abbrev pub taken_by : Offer → Rendezvous → Option Definition
taken_by Taken r = Some (rendezvous_of r)
taken_by NotReceiving r = None
