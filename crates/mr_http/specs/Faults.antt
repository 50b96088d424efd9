-- A fault of reading, as the fault of a connection.
use Rattle.mr_http.specs.declared.faults.ReadFault.{ReadFault}
use Rattle.mr_http.specs.declared.faults.ReadFault.TheVariants as read
use Rattle.mr_http.specs.declared.faults.WebFault.{WebFault}
use Rattle.mr_http.specs.declared.faults.WebFault.TheVariants as web

abbrev pub web_fault : ReadFault → WebFault
web_fault read.Read = web.Read
web_fault read.Memory = web.Memory
