mod Purges
