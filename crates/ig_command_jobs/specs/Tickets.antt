-- The tickets of a work list in one of three orders.
use Rattle.std.specs.Prelude.{List}
use Rattle.ig_queue.specs.declared.ticket.Ticket.{Ticket}
use Rattle.ig_command_jobs.specs.declared.tickets.Tickets.{Tickets}
use Rattle.ig_command_jobs.specs.declared.tickets.Tickets.TheVariants as tickets

abbrev pub waiting_in : Tickets → List Ticket
waiting_in (tickets.Fifo queue) = queue
waiting_in (tickets.Lifo stack) = stack
waiting_in (tickets.Lowest heap) = heap
