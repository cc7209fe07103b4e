mod WordsRequests
mod BundleRead
mod FilesJoined
mod RecordsTold
mod ProgramFiles
mod ProgramRuns
